use Rattle.std.proofs.Common.{refl, sym, subst, arith}
use Rattle.unsettled.specs.Peers.{LegalTags, LegalUpTo}
use Rattle.unsettled.proofs.Legal.{is_illegal, not_illegal}
use Rattle.unsettled.proofs.Repeats.{rest_is, legal_behind, short_on, apart_on}
use Rattle.unsettled.proofs.peer.has_illegal_tag.Goals as goal

pub returns-then-has_early_fault-clause-value : goal.returns-then-has_early_fault-clause-value
returns-then-has_early_fault-clause-value c =
    let ps = c.args.pairs.now in
    let lt = c.loop-from-test.true in
    is_illegal ps (λ h. c.if-has_early_fault.ensures.fault refl (subst LegalTags (sym (rest_is ps c.loop-from.from)) (legal_behind ps c.loop-from.from (omega arith) h)))

pub loop-from-preserved : goal.loop-from-preserved
loop-from-preserved c =
    let ps = c.args.pairs.now in
    let l = c.loop-from in
    let h = subst (LegalUpTo 1024) (rest_is ps l.from) (c.if-has_early_fault.ensures.legal refl) in
    record {
      short = λ j _ lt. short_on ps l.from c.loop-from-test.true l.invariant.short h j lt;
      apart = apart_on ps l.from c.loop-from-test.true l.invariant.apart h;
    }

pub returns-clause-value : goal.returns-clause-value
returns-clause-value c =
    let le = c.loop-from-test.false in
    not_illegal c.args.pairs.now
    (record {
      short = λ j lt. c.loop-from.invariant.short j (omega arith) lt;
      apart = λ j k below lt. c.loop-from.invariant.apart j k (omega arith) below lt;
    })

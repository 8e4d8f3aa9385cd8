use Rattle.std.proofs.Common.{◌≡◌, Some, ap, ◌∙◌, ⊎_elim, arith, below_more}
use Rattle.unsettled.specs.Indexes.{keys_of}
use Rattle.unsettled.specs.Peers.{blank, tag_at, key_of_pair}
use Rattle.unsettled.proofs.Keyed.{keyed_none, keyed_next}
use Rattle.unsettled.proofs.Threads.{lower_or_not}
use Rattle.unsettled.proofs.Repeats.{apart_early, twice}
use Rattle.unsettled.proofs.peer.has_early_fault.Goals as goal
use Rattle.unsettled.proofs.peer.has_early_fault.Goals.{then-tag-gt-MAX_TAG-via-then-tag-gt-MAX_TAG, then-tag-gt-MAX_TAG-via-else-tag-gt-MAX_TAG+then-stands_before}

pub returns-then-tag-gt-MAX_TAG-clause-fault : goal.returns-then-tag-gt-MAX_TAG-clause-fault
returns-then-tag-gt-MAX_TAG-clause-fault c = λ _ h.
    let i = c.loop-i.i in
    let lt = c.loop-i-test.true in
    elim c.then-tag-gt-MAX_TAG.branch [
      | then-tag-gt-MAX_TAG-via-then-tag-gt-MAX_TAG w ↦ absurd (omega (arith, h.short i lt, w.if-tag-gt-MAX_TAG.true))
      | then-tag-gt-MAX_TAG-via-else-tag-gt-MAX_TAG+then-stands_before w ↦ twice c.args.pairs.now i lt w.if-stands_before.ensures h
    ]

pub loop-i-preserved : goal.loop-i-preserved
loop-i-preserved c =
    let ps = c.args.pairs.now in
    let l = c.loop-i in
    let lt = c.loop-i-test.true in
    record {
      short = below_more _ l.i l.invariant.short c.if-tag-gt-MAX_TAG.false;
      apart = λ j k few below m same.
          ⊎_elim (λ a. l.invariant.apart j k few below a same)
          (λ a.
          let e : k ≡ l.i = omega arith in
          apart_early ps l.i j lt c.if-stands_before.ensures (omega arith) few (same ∙ ap (tag_at ps) e))
          (lower_or_not k l.i);
      keyed = rw c.put.ensures (keyed_next key_of_pair (keys_of l.index) l.i ps blank _ lt (ap Some c.key_of_bytes.ensures) l.invariant.keyed);
    }

pub loop-i-init : goal.loop-i-init
loop-i-init c =
    record {
      short = λ j a. absurd (omega arith);
      apart = λ j k a b d. absurd (omega arith);
      keyed = keyed_none key_of_pair (keys_of c.new-index.result) c.args.pairs.now;
    }

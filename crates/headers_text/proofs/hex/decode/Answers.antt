use Rattle.std.proofs.Common.{◌≡◌, rules, arith, Err, sym, subst}
use Rattle.headers_text.proofs.Pairs.{added_more, added_all, begun, stopped, no_room}
use Rattle.headers_text.specs.Hex.{Decoded}
use Rattle.headers_text.specs.declared.hex.HexFault.TheVariants.{NoDigit, Memory}
use Rattle.headers_text.proofs.hex.decode.Goals as goal

pub loop-high-preserved : goal.loop-high-preserved
loop-high-preserved c =
    let chunks = c.as_chunks.ensures in
    record {
      added = added_more c.args.text.now _ _ _ _ _ c.in_ok-ok_or.field-0 chunks.front c.loop-high-test.true chunks.front_len c.loop-high.invariant.added (search rules) c.in_ok-push.ensures.items;
      capacity = omega (arith, c.loop-high.invariant.capacity, c.in_ok-push.ensures.capacity);
    }

pub returns-clause-added : goal.returns-clause-added
returns-clause-added c =
    added_all c.args.text.now _ _ _ _ c.as_chunks.ensures.front c.loop-high-test.false (search rules) c.loop-high.invariant.added

pub returns-in_err-ok_or-clause-added : goal.returns-in_err-ok_or-clause-added
returns-in_err-ok_or-clause-added c =
    let chunks = c.as_chunks.ensures in
    let e : c.from_residual.result ≡ Err NoDigit = search rules in
    subst (λ r. Decoded r c.args.text.now c.args.into.now.items c.loop-high.into.items) (sym e)
    (stopped c.args.text.now _ _ _ c.loop-high.high-index chunks.front (search rules) (omega (arith, c.loop-high-test.true, chunks.front_len)) (search rules) c.loop-high.invariant.added)

pub returns-in_err-push-clause-added : goal.returns-in_err-push-clause-added
returns-in_err-push-clause-added c =
    let e : c.from_residual-in_err-push.result ≡ Err Memory = search rules in
    let same : c.push.new.self.items ≡ c.loop-high.into.items = c.in_err-push.ensures.items in
    subst (λ r. Decoded r c.args.text.now c.args.into.now.items c.push.new.self.items) (sym e)
    (rw same (begun c.args.text.now _ _ _ c.loop-high.high-index c.as_chunks.ensures.front (search rules) c.loop-high.invariant.added))

pub returns-in_err-push-clause-memory : goal.returns-in_err-push-clause-memory
returns-in_err-push-clause-memory c m =
    let chunks = c.as_chunks.ensures in
    let r = no_room c.args.text.now c.args.into.now.items c.loop-high.into.items _ c.loop-high.high-index _ _ chunks.front (omega (arith, c.loop-high-test.true, chunks.front_len)) c.loop-high.invariant.added c.loop-high.invariant.capacity (omega (arith, c.in_err-push.ensures.full, c.loop-high.into.ok.0)) in
    omega (arith, r, c.args.into.now.ok.0)

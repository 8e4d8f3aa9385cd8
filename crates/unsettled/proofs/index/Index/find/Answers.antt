use Rattle.std.proofs.Common.{None, sym, arith}
use Rattle.unsettled.specs.Indexes.{keys_of, is_key}
use Rattle.unsettled.proofs.Indexes.{keys_len}
use Rattle.unsettled.proofs.Firsts.{place_is, no_place}
use Rattle.unsettled.proofs.index.Index.find.Goals as goal

pub returns : goal.returns
returns c =
    let i = c.args.self.now in
    let n = keys_len i in
    no_place (is_key c.args.key) (keys_of i) None (λ k l. c.loop-place.invariant.passed k (omega (arith, n, c.loop-place-test.false)))

pub returns-then-eq : goal.returns-then-eq
returns-then-eq c =
    let i = c.args.self.now in
    let n = keys_len i in
    let lt = c.loop-place-test.true in
    place_is (is_key c.args.key) (keys_of i) c.loop-place.place None (omega (arith, n, lt)) (λ k l. c.loop-place.invariant.passed k l)
    (sym c.if-eq.ensures)

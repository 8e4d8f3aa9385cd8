use Rattle.std.proofs.Common.{◌+◌, ◌<◌, ◌∙◌, ap, arith}
use Rattle.sections.specs.Sections.{begun_before}
use Rattle.sections.proofs.Searching.{begun_same, begun_next, no_more}
use Rattle.sections.proofs.section.Goals as goal

pub loop-init : goal.loop-init
loop-init c =
    let e = c.in_ok-start.ensures in
    record { inside = e.1; begins = e.2; number = begun_same c.args.message.now 0 c.in_ok-start.start e.0 e.3 }

pub returns-in_err-start-2 : goal.returns-in_err-start-2
returns-in_err-start-2 c =
    let few : begun_before c.args.message.now c.loop.start < c.args.number = omega (arith, c.loop.invariant.number, c.loop-test.true) in
    rw c.from_residual-in_err-start-2.ensures (no_more c.args.message.now c.loop.start c.args.number few c.in_err-start-2.ensures)

pub loop-preserved : goal.loop-preserved
loop-preserved c =
    let v = c.loop.invariant in
    let e = c.in_ok-start-2.ensures in
    record {
      inside = e.1;
      begins = e.2;
      number = begun_next c.args.message.now c.loop.start c.in_ok-start-2.start v.begins e.0 e.3 ∙ ap (λ n. n + 1) v.number;
    }

pub returns : goal.returns
returns c =
    let v = c.loop.invariant in
    (v.inside, v.begins, v.number ∙ omega (arith, c.loop-test.false, c.loop.auto.counter-end))

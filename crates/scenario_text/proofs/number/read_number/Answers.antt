use Rattle.std.proofs.Common.{◌≤◌, decimal, arith, sym, subst}
use Rattle.scenario_text.specs.Values.{HasPlainStart}
use Rattle.scenario_text.proofs.Numbers.{decimal_plain, number_some, number_none}
use Rattle.scenario_text.proofs.Reading.{none_read}
use Rattle.scenario_text.proofs.number.read_number.Goals as goal

pub returns-then-not-has_plain_start : goal.returns-then-not-has_plain_start
returns-then-not-has_plain_start c =
    none_read decimal (λ n. n ≤ c.args.most) c.args.text.now (λ n le e. let yes = c.has_plain_start.ensures.1 (subst HasPlainStart (sym e) (decimal_plain n (omega arith))) in cc)

pub returns-in_err-n : goal.returns-in_err-n
returns-in_err-n c =
    rw c.from_residual.ensures (number_none c.args.most c.args.text.now c.parse.result (omega arith) c.parse.ensures.value.0 c.in_err-n.ensures.value)

pub returns : goal.returns
returns c =
    rw c.then_some.ensures (number_some _ c.args.most c.in_ok-n.n c.args.text.now c.parse.result (omega arith) (c.has_plain_start.ensures.0 c.if-not-has_plain_start.false) c.parse.ensures.value.0 c.in_ok-n.ensures.value)

use Rattle.std.proofs.Common.{arith, refl}
use Rattle.scenario_text.proofs.Numbers.{narrowed}
use Rattle.scenario_text.proofs.number.read_u32.Goals as goal

pub overflow_cast-result : goal.overflow_cast-result
overflow_cast-result c = let h = c.in_ok-read_number.ensures in omega (arith, h.printed.0, c.from.ensures)

pub returns-in_err-read_number : goal.returns-in_err-read_number
returns-in_err-read_number c =
    rw c.from_residual.ensures (narrowed 4294967295 4294967296 c.args.text.now _ refl (rw c.from.ensures at c.in_err-read_number.ensures))

pub returns : goal.returns
returns c = narrowed 4294967295 4294967296 c.args.text.now _ refl (rw c.from.ensures at c.in_ok-read_number.ensures)

use Rattle.std.proofs.Common.{codes, sym}
use Rattle.std.proofs.lemmas.Slice.Eq.{bytes_eq-Decides}
use Rattle.scenario_text.proofs.Conditions.{zero_read, error_is_read, no_condition}
use Rattle.scenario_text.proofs.condition.read_condition.Goals as goal

pub returns-then-eq : goal.returns-then-eq
returns-then-eq c = zero_read c.args.text.now ((bytes_eq-Decides c.args.text.now (codes "0")).0 (sym c.if-eq.ensures))

pub returns-in_err-read_error : goal.returns-in_err-read_error
returns-in_err-read_error c =
    rw c.from_residual.ensures (no_condition c.args.text.now (λ e. let t = (bytes_eq-Decides c.args.text.now (codes "0")).1 e in let f = c.if-eq.ensures in cc) c.in_err-read_error.ensures)

pub returns : goal.returns
returns c =
    error_is_read c.args.text.now _ (λ e. let t = (bytes_eq-Decides c.args.text.now (codes "0")).1 e in let f = c.if-eq.ensures in cc) c.in_ok-read_error.ensures

use Rattle.scenario_text.proofs.Causes.{connection_unread}
use Rattle.scenario_text.proofs.reason.read_connection_cause.Goals as goal

pub returns-in_err-error : goal.returns-in_err-error
returns-in_err-error c =
    λ nc nr. rw c.from_residual-in_err-error.ensures (connection_unread c.args.text.now nc nr c.in_default.ensures c.in_err-error.ensures)

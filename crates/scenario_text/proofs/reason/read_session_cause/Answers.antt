use Rattle.scenario_text.proofs.Causes.{session_unread}
use Rattle.scenario_text.proofs.reason.read_session_cause.Goals as goal

pub returns-in_err-reason : goal.returns-in_err-reason
returns-in_err-reason c =
    λ ne nr. rw c.from_residual-in_err-reason.ensures (session_unread c.args.text.now ne nr c.in_default.ensures c.in_default-inside.ensures c.in_err-reason.ensures)

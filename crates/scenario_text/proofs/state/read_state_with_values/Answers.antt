use Rattle.scenario_text.proofs.States.{state_unread}
use Rattle.scenario_text.proofs.state.read_state_with_values.Goals as goal

pub returns-in_err-delivery_failed : goal.returns-in_err-delivery_failed
returns-in_err-delivery_failed c =
    λ na nr. rw c.from_residual.ensures (state_unread c.args.text.now na nr c.in_default.ensures c.in_default-read_rejected.ensures c.in_err-delivery_failed.ensures)

use Rattle.scenario_text.proofs.Outcomes.{outcome_unread}
use Rattle.scenario_text.proofs.outcome.read_outcome_with_value.Goals as goal

pub returns-in_err-read_state : goal.returns-in_err-read_state
returns-in_err-read_state c =
    λ nn nc. rw c.from_residual-in_err-read_state.ensures (outcome_unread c.args.text.now nn nc c.in_default.ensures.cases c.in_err-read_state.ensures)

use Rattle.scenario_text.specs.Commands.{disposition_words, IsDisposition}
use Rattle.scenario_text.proofs.Takings.{refuses_too, behind}
use Rattle.scenario_text.proofs.values.disposition_of.Goals as goal

pub returns-in_err-optional_state : goal.returns-in_err-optional_state
unfolding disposition_words
returns-in_err-optional_state c =
    refuses_too disposition_words IsDisposition _ _ _ c.from_residual-in_err-optional_state.ensures.0 (λ x rest fits e. c.in_err-optional_state.ensures.refused x.2 rest fits.1 (behind c.in_ok-truth.ensures.taken.1 (behind c.in_ok-tag.ensures.taken.1 e)))

use Rattle.scenario_text.specs.Commands.{flow_words, IsFlow}
use Rattle.scenario_text.proofs.Takings.{refuses, behind}
use Rattle.scenario_text.proofs.values.link_flow.Goals as goal

pub returns-in_err-optional_u32-2 : goal.returns-in_err-optional_u32-2
unfolding flow_words
returns-in_err-optional_u32-2 c =
    refuses flow_words IsFlow _ _ _ c.from_residual-in_err-optional_u32-2.ensures.0 (λ x rest fits e. c.in_err-optional_u32-2.ensures.refused x.link_credit _ fits.3 (behind c.in_ok-optional_u32.ensures.taken.1 e))

pub returns-in_err-truth-2 : goal.returns-in_err-truth-2
unfolding flow_words
returns-in_err-truth-2 c =
    refuses flow_words IsFlow _ _ _ c.from_residual-in_err-truth-2.ensures.0 (λ x rest fits e. c.in_err-truth-2.ensures.refused x.echo rest tt (behind c.in_ok-truth.ensures.taken.1 (behind c.in_ok-optional_u32-2.ensures.taken.1 (behind c.in_ok-optional_u32.ensures.taken.1 e))))

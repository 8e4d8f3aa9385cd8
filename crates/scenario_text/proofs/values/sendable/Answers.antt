use Rattle.scenario_text.specs.Commands.{send_words, IsSend}
use Rattle.scenario_text.proofs.Takings.{refuses, behind}
use Rattle.scenario_text.proofs.values.sendable.Goals as goal

pub returns-in_err-optional_truth : goal.returns-in_err-optional_truth
unfolding send_words
returns-in_err-optional_truth c =
    refuses send_words IsSend _ _ _ c.from_residual-in_err-optional_truth.ensures.0 (λ x rest fits e. c.in_err-optional_truth.ensures.refused x.settled _ tt (behind c.in_ok-u32.ensures.taken.1 (behind c.in_ok-size-2.ensures.taken.1 (behind c.in_ok-size.ensures.taken.1 e))))

pub returns-in_err-optional_state : goal.returns-in_err-optional_state
unfolding send_words
returns-in_err-optional_state c =
    refuses send_words IsSend _ _ _ c.from_residual-in_err-optional_state.ensures.0 (λ x rest fits e. c.in_err-optional_state.ensures.refused x.state _ fits.3 (behind c.in_ok-optional_truth.ensures.taken.1 (behind c.in_ok-u32.ensures.taken.1 (behind c.in_ok-size-2.ensures.taken.1 (behind c.in_ok-size.ensures.taken.1 e)))))

pub returns-in_err-truth : goal.returns-in_err-truth
unfolding send_words
returns-in_err-truth c =
    refuses send_words IsSend _ _ _ c.from_residual-in_err-truth.ensures.0 (λ x rest fits e. c.in_err-truth.ensures.refused x.batchable rest tt (behind c.in_ok-optional_state.ensures.taken.1 (behind c.in_ok-optional_truth.ensures.taken.1 (behind c.in_ok-u32.ensures.taken.1 (behind c.in_ok-size-2.ensures.taken.1 (behind c.in_ok-size.ensures.taken.1 e))))))

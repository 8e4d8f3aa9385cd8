use Rattle.std.proofs.lemmas.Result.{err_from_is_err_and}
use Rattle.scenario_text.specs.Commands.{dispose_words, IsDispose}
use Rattle.scenario_text.proofs.Takings.{refuses_too, refuses_with_memory, behind}
use Rattle.scenario_text.proofs.values.disposal.Goals as goal

pub returns-in_err-tag : goal.returns-in_err-tag
unfolding dispose_words
returns-in_err-tag c =
    let p = err_from_is_err_and c.from_residual-in_err-tag.result c.from_residual-in_err-tag.ensures.1 in
    refuses_with_memory dispose_words IsDispose _ _ _ _ _ p.1 p.2 (λ there x rest fits e. c.in_err-tag.ensures.refused there x.delivery_tag _ fits.1 (behind c.in_ok-u32.ensures.taken.1 e))

pub returns-in_err-state : goal.returns-in_err-state
unfolding dispose_words
returns-in_err-state c =
    refuses_too dispose_words IsDispose _ _ _ c.from_residual-in_err-state.ensures.0 (λ x rest fits e. c.in_err-state.ensures.refused x.state _ fits.2 (behind c.in_ok-truth.ensures.taken.1 (behind c.in_ok-tag.ensures.taken.1 (behind c.in_ok-u32.ensures.taken.1 e))))

pub returns-in_err-truth-2 : goal.returns-in_err-truth-2
unfolding dispose_words
returns-in_err-truth-2 c =
    refuses_too dispose_words IsDispose _ _ _ c.from_residual-in_err-truth-2.ensures.0 (λ x rest fits e. c.in_err-truth-2.ensures.refused x.batchable rest tt (behind c.in_ok-state.ensures.taken.1 (behind c.in_ok-truth.ensures.taken.1 (behind c.in_ok-tag.ensures.taken.1 (behind c.in_ok-u32.ensures.taken.1 e)))))

use Rattle.scenario_text.specs.Commands.{link_words, settings_words, IsLink}
use Rattle.scenario_text.proofs.Takings.{refuses, behind, behind_four}
use Rattle.scenario_text.proofs.values.link_sizes.Goals as goal

pub returns-in_err-u32 : goal.returns-in_err-u32
unfolding link_words settings_words
returns-in_err-u32 c =
    refuses link_words IsLink _ _ _ c.from_residual-in_err-u32.ensures.0 (λ x rest fits e. c.in_err-u32.ensures.refused x.initial_delivery_count rest fits.5 (behind_four c.in_ok-settings.ensures.taken.1 (behind c.in_ok-size-4.ensures.taken.1 (behind c.in_ok-size-3.ensures.taken.1 (behind c.in_ok-size-2.ensures.taken.1 (behind c.in_ok-size.ensures.taken.1 e))))))

use Rattle.scenario_text.specs.Commands.{settings_words, IsSettings}
use Rattle.scenario_text.proofs.Takings.{refuses, behind}
use Rattle.scenario_text.proofs.values.settings.Goals as goal

pub returns-in_err-u32 : goal.returns-in_err-u32
unfolding settings_words
returns-in_err-u32 c =
    refuses settings_words IsSettings _ _ _ c.from_residual-in_err-u32.ensures.0 (λ x rest fits e. c.in_err-u32.ensures.refused x.max_frame_size rest fits.1 (behind c.in_ok-number.ensures.taken.1 (behind c.in_ok-receiver_mode.ensures.taken.1 (behind c.in_ok-sender_mode.ensures.taken.1 e))))

use Rattle.std.proofs.Common.{codes}
use Rattle.scenario_text.specs.Shown.{sender_word}
use Rattle.scenario_text.proofs.Takings.{takes_read}
use Rattle.scenario_text.proofs.words.Words.sender_mode.Goals as goal

pub returns : goal.returns
unfolding sender_word
returns c = takes_read _ _ (codes "sender") _ _ _ _ _ _ c.ok_or.ensures.value c.read_sender_mode.ensures c.in_ok-value.ensures

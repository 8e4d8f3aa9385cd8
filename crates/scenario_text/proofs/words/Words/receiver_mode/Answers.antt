use Rattle.std.proofs.Common.{codes}
use Rattle.scenario_text.specs.Shown.{receiver_word}
use Rattle.scenario_text.proofs.Takings.{takes_read}
use Rattle.scenario_text.proofs.words.Words.receiver_mode.Goals as goal

pub returns : goal.returns
unfolding receiver_word
returns c = takes_read _ _ (codes "receiver") _ _ _ _ _ _ c.ok_or.ensures.value c.read_receiver_mode.ensures c.in_ok-value.ensures

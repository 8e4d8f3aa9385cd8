use Rattle.scenario_text.specs.Shown.{condition_word}
use Rattle.scenario_text.proofs.Takings.{takes_read}
use Rattle.scenario_text.proofs.words.Words.condition.Goals as goal

pub returns : goal.returns
unfolding condition_word
returns c = takes_read _ _ _ _ _ _ _ _ _ c.ok_or.ensures.value c.read_condition.ensures c.in_ok-value.ensures

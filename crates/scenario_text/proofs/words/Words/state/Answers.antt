use Rattle.scenario_text.specs.Shown.{state_word}
use Rattle.scenario_text.proofs.Takings.{takes_read}
use Rattle.scenario_text.proofs.words.Words.state.Goals as goal

pub returns : goal.returns
unfolding state_word
returns c = takes_read _ _ _ _ _ _ _ _ _ c.ok_or.ensures.value c.read_state.ensures c.in_ok-value.ensures

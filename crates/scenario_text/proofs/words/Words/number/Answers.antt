use Rattle.scenario_text.proofs.Takings.{takes_read}
use Rattle.scenario_text.proofs.words.Words.number.Goals as goal

pub returns : goal.returns
returns c = takes_read _ _ _ _ _ _ _ _ _ c.ok_or.ensures.value c.read_number.ensures c.in_ok-value.ensures

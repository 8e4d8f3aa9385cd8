use Rattle.scenario_text.proofs.Takings.{takes_read}
use Rattle.scenario_text.proofs.words.Words.u32.Goals as goal

pub returns : goal.returns
returns c = takes_read _ _ _ _ _ _ _ _ _ c.ok_or.ensures.value c.read_u32.ensures c.in_ok-value.ensures

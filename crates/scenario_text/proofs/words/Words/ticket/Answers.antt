use Rattle.scenario_text.proofs.Takings.{takes_bare}
use Rattle.scenario_text.proofs.words.Words.ticket.Goals as goal

pub returns : goal.returns
returns c = takes_bare _ _ _ _ _ _ _ _ c.ok_or.ensures.value c.read_u32.ensures c.in_ok-word.ensures

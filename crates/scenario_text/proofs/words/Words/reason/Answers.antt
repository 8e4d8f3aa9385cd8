use Rattle.scenario_text.specs.Shown.{reason_word}
use Rattle.scenario_text.proofs.Takings.{takes_bare}
use Rattle.scenario_text.proofs.words.Words.reason.Goals as goal

pub returns : goal.returns
unfolding reason_word
returns c = takes_bare _ _ _ _ _ _ _ _ c.ok_or.ensures.value c.read_session_reason.ensures c.in_ok-word.ensures

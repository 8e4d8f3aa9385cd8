use Rattle.scenario_text.specs.Shown.{truth_word}
use Rattle.scenario_text.proofs.Takings.{takes_read}
use Rattle.scenario_text.proofs.words.Words.truth.Goals as goal

pub returns : goal.returns
unfolding truth_word
returns c = takes_read _ _ _ _ _ _ _ _ _ c.ok_or.ensures.value c.read_truth.ensures c.in_ok-value.ensures

use Rattle.scenario_text.specs.Shown.{truth_or_none}
use Rattle.scenario_text.proofs.Takings.{takes_read}
use Rattle.scenario_text.proofs.words.Words.optional_truth.Goals as goal

pub returns : goal.returns
unfolding truth_or_none
returns c = takes_read _ _ _ _ _ _ _ _ _ c.ok_or.ensures.value c.read_optional_truth.ensures c.in_ok-value.ensures

use Rattle.std.proofs.Common.{ap}
use Rattle.scenario_text.specs.Words.{words, left}
use Rattle.scenario_text.proofs.words.Words.new.Goals as goal

pub returns : goal.returns
unfolding left
returns c = ap words c.split_ascii_whitespace.ensures.text

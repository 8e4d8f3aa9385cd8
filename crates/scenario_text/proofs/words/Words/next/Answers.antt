use Rattle.std.specs.Str.Iter.{split_ascii_whitespace_text}
use Rattle.scenario_text.specs.Words.{left}
use Rattle.scenario_text.proofs.Cuts.{words_cut}
use Rattle.scenario_text.proofs.words.Words.next.Goals as goal

pub returns : goal.returns
unfolding left
returns c = words_cut (split_ascii_whitespace_text c.args.self.now.rest) (split_ascii_whitespace_text c.next.new.self) c.next.result c.next.ensures.steps

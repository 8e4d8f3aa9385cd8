use Rattle.std.proofs.Common.{lit<}
use Rattle.scenario_text.specs.Words.{keyed}
use Rattle.scenario_text.proofs.Parts.{parts_of}
use Rattle.scenario_text.proofs.peers.halves.Goals as goal

pub returns : goal.returns
unfolding keyed
returns c = parts_of 61 c.args.part.now c.split_once.result (lit< tt) c.split_once.ensures.cases

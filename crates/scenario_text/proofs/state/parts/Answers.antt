use Rattle.std.proofs.Common.{lit<}
use Rattle.scenario_text.proofs.Parts.{parts_of}
use Rattle.scenario_text.proofs.state.parts.Goals as goal

pub returns : goal.returns
returns c = parts_of 44 c.args.text.now c.split_once.result (lit< tt) c.split_once.ensures.cases

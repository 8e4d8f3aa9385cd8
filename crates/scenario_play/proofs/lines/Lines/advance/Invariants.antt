use Rattle.scenario_play.specs.Inputs.{SameTold}
use Rattle.scenario_play.proofs.lines.Lines.advance.Given as goal

abbrev pub invariant-loop : goal.invariant-loop
invariant-loop g l = SameTold (g.R.Read.remaining l.initial.self.input.reader) (g.R.Read.remaining l.self.input.reader)

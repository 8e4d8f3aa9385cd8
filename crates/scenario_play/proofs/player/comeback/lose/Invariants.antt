use Rattle.std.proofs.Common.{length}
use Rattle.scenario_play.proofs.player.comeback.lose.Given as goal

abbrev pub decreases-loop-place : goal.decreases-loop-place
decreases-loop-place g l = length (g.S.Sink.model l.sink).waiting

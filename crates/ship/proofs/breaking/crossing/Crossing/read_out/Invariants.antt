use Rattle.std.proofs.Common.{length}
use Rattle.queue.specs.Queues.{model_of}
use Rattle.ship.proofs.breaking.crossing.Crossing.read_out.Given as goal

abbrev pub decreases-loop-place : goal.decreases-loop-place
decreases-loop-place l = length (model_of l.self.queue).waiting

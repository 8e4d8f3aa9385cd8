use Rattle.std.proofs.Common.{length}
use Rattle.queue.specs.Queues.{model_of}
use Rattle.workloads.proofs.outlet.QueueOutlet.read_out.Given as goal

abbrev pub decreases-loop : goal.decreases-loop
decreases-loop l = length (model_of l.self).waiting

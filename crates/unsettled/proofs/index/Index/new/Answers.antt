use Rattle.unsettled.proofs.Threads.{unthreaded}
use Rattle.unsettled.proofs.index.Index.new.Goals as goal

pub invariant_of-result : goal.invariant_of-result
invariant_of-result c = record { threaded = unthreaded }

use Rattle.std.proofs.Common.{◌≡◌, length}
use Rattle.queue.specs.Queues.{model_of}
use Rattle.shipping.specs.Archives.{took_all}
use Rattle.shipping.specs.Unloading.{emptied}
use Rattle.shipping.proofs.unload.unload.Given as goal

-- what is left to read gives what the whole queue gives
abbrev pub invariant-loop-place : goal.invariant-loop-place
invariant-loop-place l =
    (length l.out ≡ length l.initial.out)
    × (emptied (model_of l.queue) ≡ emptied (model_of l.initial.queue))
    × (took_all (model_of l.queue).waiting l.archive ≡ took_all (model_of l.initial.queue).waiting l.initial.archive)

abbrev pub decreases-loop-place : goal.decreases-loop-place
decreases-loop-place l = length (model_of l.queue).waiting

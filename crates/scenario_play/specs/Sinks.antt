-- The sinks that a scenario asks for.
use Rattle.std.specs.Prelude.{◌≡◌, ℕ, ◌≤◌, ◌<◌, Result, Ok, Err}
use Rattle.amqp.specs.declared.error.MakeError.{MakeError}
use Rattle.amqp.specs.declared.error.MakeError.TheVariants.{Sizes}
use Rattle.queue.specs.declared.queue.Queue.{Queue}
use Rattle.queue.specs.Queues.{model_of as queue_model}
use Rattle.queue.specs.Rings.{InBounds}
use Rattle.sink.specs.Frames.{empty}
use Rattle.spool.specs.declared.spool.Spool.{Spool}
use Rattle.spool.specs.Spools.{model_of as spool_model, room_for}

-- an empty queue exactly where the sizes are in bounds
abbrev pub QueueMade : (places widest memory : ℕ) → Result Queue MakeError → Type 0
QueueMade places widest memory (Ok q) = InBounds places memory widest × (queue_model q ≡ empty places widest)
QueueMade places widest memory (Err e) = (InBounds places memory widest → ⊥) × (e ≡ Sizes)

-- an empty spool, likewise
abbrev pub SpoolMade : (memory widest : ℕ) → Result Spool MakeError → Type 0
SpoolMade memory widest (Ok s) = (widest ≤ 65535) × (spool_model s ≡ empty (room_for memory widest) widest)
SpoolMade memory widest (Err e) = (65535 < widest) × (e ≡ Sizes)

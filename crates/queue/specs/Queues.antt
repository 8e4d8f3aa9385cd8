-- What a queue means, and what making one answers.
use Rattle.std.specs.Prelude.{◌≡◌, ℕ, ◌-◌, Ok, Err, vec_items, vec_len, Result}
use Rattle.std.specs.Global.{Vec}
use Rattle.amqp.specs.declared.error.MakeError.TheVariants.{Sizes}
use Rattle.sink.specs.Frames.{Model, empty}
use Rattle.queue.specs.declared.place.Place.{Place}
use Rattle.queue.specs.declared.queue.Queue.{Queue}
use Rattle.queue.specs.declared.queue.making.Unmade.{Unmade}
use Rattle.queue.specs.Rings.{InBounds, frames_in}

-- what a queue means as a sink
abbrev pub model_of : Queue → Model
model_of q =
    record {
      waiting = frames_in (vec_items q.places) (vec_items q.bytes) q.widest (vec_len q.places) q.head q.used;
      vacancy = vec_len q.places - q.used;
      widest = q.widest;
      stopped = q.stop;
    }

-- a queue is made exactly where the sizes are in bounds, and else the memory comes back as it was
abbrev pub Made : Vec Place → Vec ℕ → (widest : ℕ) → Result Queue Unmade → Type 0
Made ps bs widest (Ok q) = InBounds (vec_len ps) (vec_len bs) widest × (model_of q ≡ empty (vec_len ps) widest) × (q.places ≡ ps) × (q.bytes ≡ bs)
Made ps bs widest (Err u) = (InBounds (vec_len ps) (vec_len bs) widest → ⊥) × (u ≡ record { error = Sizes; places = ps; bytes = bs })

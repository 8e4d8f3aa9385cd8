-- What the reader takes, over the frames that wait and the length of its memory.
use Rattle.std.specs.Prelude.{ℕ, ◌+◌, cond, List, [], ◌∷◌, ◌++◌, length, drop, Some, None, Ok, Err, Option, Result, nat_lt}
use Rattle.amqp.specs.declared.error.MemoryError.{MemoryError}
use Rattle.amqp.specs.declared.error.MemoryError.TheVariants.{TooShort}
use Rattle.sink.specs.Frames.{Frame, Model}
use Rattle.queue.specs.declared.place.Place.{Place}

-- what the reader gets of a frame besides its payload
abbrev pub place_of : Frame → Place
place_of f = record { kind = f.kind; handle = f.handle; header = f.header; size = length f.payload }

-- of the oldest frame, none, or a refusal where its payload does not fit `room` bytes
abbrev pub taken : List Frame → (room : ℕ) → Result (Option Place) MemoryError
taken [] room = Ok None
taken (f ∷ fs) room = cond (nat_lt room (length f.payload)) (Err TooShort) (Ok (Some (place_of f)))

-- the sink with one place more, and only these frames
abbrev pub freed : Model → List Frame → Model
freed m fs = record { waiting = fs; vacancy = m.vacancy + 1; widest = m.widest; stopped = m.stopped }

-- the sink once the oldest of these frames was taken, if it was
abbrev pub left_of : Model → List Frame → (room : ℕ) → Model
left_of m [] room = m
left_of m (f ∷ fs) room = cond (nat_lt room (length f.payload)) m (freed m fs)

-- the sink that a reader with `room` bytes leaves
abbrev pub left : Model → (room : ℕ) → Model
left m room = left_of m m.waiting room

-- what the reader's memory then holds: the payload, and what stood past it
abbrev pub read_into : List Frame → List ℕ → List ℕ
read_into [] out = out
read_into (f ∷ fs) out = cond (nat_lt (length out) (length f.payload)) out (f.payload ++ drop (length f.payload) out)

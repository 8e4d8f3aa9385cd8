-- What a ring of places means, over the lists that the memory holds.
use Rattle.std.specs.Prelude.{ℕ, ◌+◌, ◌*◌, ◌%◌, ◌<◌, ◌≤◌, false, List, map, take, drop, None, slice_index_or}
use Rattle.std.specs.List.{range_with_len}
use Rattle.amqp.specs.declared.header.FrameKind.TheVariants as kind
use Rattle.amqp.specs.declared.header.Header.TheVariants as header
use Rattle.sink.specs.Frames.{Frame, frame}
use Rattle.queue.specs.declared.place.Place.{Place}

-- the sizes that a queue can have: so many places and bytes, and the widest payload
abbrev pub InBounds : (places bytes widest : ℕ) → Type 0
InBounds places bytes widest = (widest ≤ 65535) × (places * widest ≤ bytes)

-- a place to fill the memory with
abbrev pub blank : Place
blank = record { kind = kind.Disposition; handle = 0; header = header.Disposition (record { first = 0; settled = false; state = None; batchable = false }); size = 0 }

-- the place that is i further than `head` in a ring of k
abbrev pub slot : (k head i : ℕ) → ℕ
slot k head i = (head + i) % k

-- what place s holds
abbrev pub place_at : List Place → ℕ → Place
place_at ps s = slice_index_or ps s blank

-- no payload that waits is wider than a place's bytes
abbrev pub Sized : List Place → (k widest head used : ℕ) → Type 0
Sized ps k widest head used = (i : ℕ) → i < used → (place_at ps (slot k head i)).size ≤ widest

-- the frame that a place holds, whose payload is the front of these bytes
abbrev pub frame_of : Place → List ℕ → Frame
frame_of x bytes = frame x.kind x.handle x.header (take x.size bytes)

-- the frame at a place: what the place holds, and the front of its bytes
abbrev pub frame_in : List Place → List ℕ → (widest s : ℕ) → Frame
frame_in ps bs widest s = frame_of (place_at ps s) (drop (s * widest) bs)

-- the frames that wait, oldest first
abbrev pub frames_in : List Place → List ℕ → (widest k head used : ℕ) → List Frame
frames_in ps bs widest k head used = map (λ i. frame_in ps bs widest (slot k head i)) (range_with_len 0 used)

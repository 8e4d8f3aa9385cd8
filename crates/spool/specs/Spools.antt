-- What a spool means, and what its calls answer.
use Rattle.std.specs.Prelude.{◌≡◌, ℕ, ◌+◌, ◌/◌, ◌<◌, ◌≤◌, cond, [], length, Ok, Err, Result, vec_len, nat_lt}
use Rattle.std.specs.Global.{Vec}
use Rattle.amqp.specs.declared.error.MakeError.TheVariants.{Sizes}
use Rattle.sink.specs.Frames.{Model, empty}
use Rattle.spool.specs.declared.spool.Spool.{Spool}
use Rattle.spool.specs.declared.spool.making.Unmade.{Unmade}
use Rattle.spool.specs.Memories.{laid, free}
use Rattle.spool.specs.Records.{records}
use Rattle.spool.specs.Reading.{frames_in}

-- how many frames surely find room: a record is at most 12 bytes, a header of 255 and the widest payload
abbrev pub room_for : (bytes widest : ℕ) → ℕ
room_for bytes widest = bytes / (267 + widest)

-- how many bytes its memory has
abbrev pub size_of : Spool → ℕ
size_of s = vec_len s.memory.bytes

-- what a spool means as a sink: the frames that its bytes read back to wait
abbrev pub model_of : Spool → Model
model_of s = record { waiting = frames_in (laid s.memory); vacancy = room_for (free s.memory) s.widest; widest = s.widest; stopped = s.stop }

-- a spool is made exactly where the widest payload is in bounds, and else the memory comes back as it was
abbrev pub Made : Vec ℕ → (widest : ℕ) → Result Spool Unmade → Type 0
Made bs widest (Ok s) = (widest ≤ 65535) × (model_of s ≡ empty (room_for (vec_len bs) widest) widest) × (s.memory.bytes ≡ bs)
Made bs widest (Err u) = (65535 < widest) × (u ≡ record { error = Sizes; bytes = bs })

-- the sink that a reader with `room` bytes leaves in memory of `size` bytes: an empty one, or as it was
abbrev pub left : (size : ℕ) → Model → (room : ℕ) → Model
left size m room =
    cond (nat_lt room (length (records m.waiting))) m (record { waiting = []; vacancy = room_for size m.widest; widest = m.widest; stopped = m.stopped })

-- How a message is cut into frames.
use Rattle.std.specs.Prelude.{All, ◌≡◌, ℕ, zero, suc, ◌+◌, ◌-◌, ◌*◌, ◌/◌, ◌≤◌, min, Bool, List, map, length, take, drop, None, Option, Result, nat_lt}
use Rattle.std.specs.List.{range_with_len, flat_map}
use Rattle.amqp.specs.declared.header.Transfer.{Transfer as Transferring}
use Rattle.amqp.specs.declared.header.Header.{Header}
use Rattle.amqp.specs.declared.header.Header.TheVariants.{Transfer, Disposition}
use Rattle.amqp.specs.declared.error.SinkError.{SinkError}
use Rattle.amqp.specs.declared.header.FrameKind.{FrameKind}
use Rattle.amqp.specs.declared.header.FrameKind.TheVariants.{First, Continuation}
use Rattle.amqp.specs.Headers.{with_id_more, continuation_of}
use Rattle.sink.specs.Frames.{Frame, frame, Model, fault_at, answer, After}

-- how many frames a message of `len` bytes needs: one for each full or begun share, and one for an empty message
abbrev pub count_of : (len share : ℕ) → ℕ
count_of len share = (len - 1) / share + 1

abbrev pub kind_at : ℕ → FrameKind
kind_at zero = First
kind_at (suc i) = Continuation

abbrev pub transfer_at : Transferring → ℕ → Bool → Transferring
transfer_at h zero more = with_id_more h h.delivery_id more
transfer_at h (suc i) more = with_id_more (continuation_of h) None more

-- part i of a message
abbrev pub part : List ℕ → (share i : ℕ) → List ℕ
part msg share i = take share (drop (i * share) msg)

-- frame i of a message cut into `count` parts: only the last has `more` unset
abbrev pub frame_at : Transferring → (handle share count : ℕ) → List ℕ → ℕ → Frame
frame_at h handle share count msg i = frame (kind_at i) handle (Transfer (transfer_at h i (nat_lt (i + 1) count))) (part msg share i)

-- the frames of a message
abbrev pub frames_of : Transferring → (handle share : ℕ) → List ℕ → List Frame
frames_of h handle share msg = map (frame_at h handle share (count_of (length msg) share) msg) (range_with_len 0 (count_of (length msg) share))

abbrev pub payload_of : Frame → List ℕ
payload_of f = f.payload

-- a header once the session has given its delivery id
abbrev pub with_id : Option ℕ → Header → Header
with_id id (Transfer h) = Transfer (with_id_more h id h.more)
with_id id (Disposition h) = Disposition h

-- header, payload and four bytes more come to the frame size at most, whatever delivery id is set later
abbrev pub Fits : (Header → List ℕ) → (size : ℕ) → Frame → Type 0
Fits bytes size f = (id : Option ℕ) → length (bytes (with_id id f.header)) + length f.payload + 4 ≤ size

-- what the frames of a message carry: the payloads in order are the message, and each frame fits
pub record Carries (bytes : Header → List ℕ) (size : ℕ) (msg : List ℕ) (frames : List Frame) : Type 0 where
  pub whole : flat_map payload_of frames ≡ msg
  pub fits : All (Fits bytes size) frames

-- what a sink refuses of a message: all its frames or none
abbrev pub split_fault : Model → List ℕ → (share : ℕ) → Option SinkError
split_fault a msg share = fault_at a (min share (length msg)) (count_of (length msg) share)

-- from `a` to `b` a message was cut into shares, with the answer `r`: its frames joined the end, or nothing changed
pub record Split (a : Model) (msg : List ℕ) (share handle : ℕ) (h : Transferring) (r : Result (Unit {0}) SinkError) (b : Model) : Type 0 where
  pub answer : r ≡ answer (split_fault a msg share)
  pub after : After (split_fault a msg share) a b (frames_of h handle share msg) (count_of (length msg) share)

-- Reading records: what stands at the front of bytes, and what all of them hold.
use Rattle.std.specs.Prelude.{ℕ, zero, suc, ◌+◌, ◌-◌, cond, List, [], ◌∷◌, length, take, drop, min, Some, None, Ok, Err, Option, Result, ◌==◌, nat_lt}
use Rattle.std.specs.Int.{w16, w32, from_le_bytes}
use Rattle.std.specs.Option.{ok_or}
use Rattle.amqp.specs.declared.header.Header.{Header}
use Rattle.amqp.specs.declared.header.FrameKind.{FrameKind}
use Rattle.amqp.specs.declared.header.FrameKind.TheVariants.{First, Continuation, Disposition}
use Rattle.codec.specs.declared.error.ReadError.{ReadError}
use Rattle.codec.specs.declared.error.ReadError.TheVariants.{NotEncoded}
use Rattle.reader.specs.Compact.{compact_reading}
use Rattle.reader.specs.Headers.{read_of as header_of}
use Rattle.sink.specs.Frames.{Frame, frame}

abbrev pub kind_of : ℕ → Option FrameKind
kind_of n = cond (n == 1) (Some First) (cond (n == 2) (Some Continuation) (cond (n == 3) (Some Disposition) None))

-- the first fault ends the reading
abbrev pub then : {A B : Type 0} → Result A ReadError → (A → Result B ReadError) → Result B ReadError
then (Ok x) f = f x
then (Err e) f = Err e

-- where a fault stands
abbrev pub place_of : ReadError → ℕ
place_of (NotEncoded at) = at

-- n bytes from a place on, or the end as the place of the fault
abbrev pub part_at : (n at : ℕ) → List ℕ → Result (List ℕ) ReadError
part_at n at bs = cond (nat_lt (length bs) (at + n)) (Err (NotEncoded (length bs))) (Ok (take n (drop at bs)))

-- a fault of bytes that begin at a place of these, and not past their end
abbrev pub shifted : {A : Type 0} → ℕ → List ℕ → Result A ReadError → Result A ReadError
shifted n bs (Ok x) = Ok x
shifted n bs (Err (NotEncoded at)) = Err (NotEncoded (min (at + n) (length bs)))

-- the header of so many bytes, which begin past the first twelve
abbrev pub header_at : (size : ℕ) → List ℕ → Result Header ReadError
header_at size bs = then (part_at size 12 bs) (λ bytes. shifted 12 bs (header_of compact_reading bytes))

-- the record at the front, and how many bytes it has: a length that does not hold the fields of the rest is at fault, then a kind
-- that is none, a header's length past the record, and the header's own first fault; bytes that are missing, at the end
unfoldable pub read_of : List ℕ → Result (Frame × ℕ) ReadError
read_of bs =
    then (part_at 4 0 bs) (λ rest. cond (nat_lt (from_le_bytes w32 rest) 8) (Err (NotEncoded 0))
    (then (part_at 2 4 bs) (λ code. then (ok_or (kind_of (from_le_bytes w16 code)) (NotEncoded 4)) (λ kind.
    then (part_at 4 6 bs) (λ handle. then (part_at 2 10 bs) (λ size.
    cond (nat_lt (from_le_bytes w32 rest) (8 + from_le_bytes w16 size)) (Err (NotEncoded 10))
    (then (header_at (from_le_bytes w16 size) bs) (λ header.
    then (part_at (from_le_bytes w32 rest - 8 - from_le_bytes w16 size) (12 + from_le_bytes w16 size) bs) (λ payload.
    Ok (frame kind (from_le_bytes w32 handle) header payload, 4 + from_le_bytes w32 rest))))))))))

-- what was read of the bytes from a place on
abbrev pub moved : ℕ → Result (Frame × ℕ) ReadError → Result (Frame × ℕ) ReadError
moved at (Ok r) = Ok (r.0, at + r.1)
moved at (Err (NotEncoded n)) = Err (NotEncoded (at + n))

-- the record at a place, and where the next begins: past the end there is none
abbrev pub read_at : ℕ → List ℕ → Result (Frame × ℕ) ReadError
read_at at bs = moved (min at (length bs)) (read_of (drop at bs))

-- the frame that was read, if one was, and those past its record
abbrev pub first_then : Result (Frame × ℕ) ReadError → (ℕ → List Frame) → List Frame
first_then (Ok r) f = r.0 ∷ f r.1
first_then (Err e) f = []

-- the frames of the records from the front on, at most so many, as long as each reads
abbrev pub frames_within : (most : ℕ) → List ℕ → List Frame
frames_within zero bs = []
frames_within (suc most) bs = first_then (read_of bs) (λ n. frames_within most (drop n bs))

-- the frames that bytes read back to: a record has at least one byte
abbrev pub frames_in : List ℕ → List Frame
frames_in bs = frames_within (length bs) bs

-- Where bytes that are no header's are at fault.
use Rattle.std.specs.Prelude.{◌≡◌, ℕ, ◌^◌, ◌<◌, ◌≤◌, min, List, ◌∷◌, ◌++◌, length, take, Err, Result, ◌≢◌, slice_index}
use Rattle.amqp.specs.declared.header.Header.{Header}
use Rattle.codec.specs.declared.error.ReadError.{ReadError}
use Rattle.codec.specs.declared.error.ReadError.TheVariants.{NotEncoded}
use Rattle.codec.specs.Amqp.{ulong}
use Rattle.codec.specs.Form.{Form, encoded}
use Rattle.reader.specs.Fits.{Fits}
use Rattle.reader.specs.Places.{Has}

abbrev pub Bytes : List ℕ → Type 0
Bytes src = (k : ℕ) → slice_index src k < 256

-- src is refused with this place, by what reads any bytes as `read` says
pub record FirstFault (read : List ℕ → Result Header ReadError) (src : List ℕ) (at : ℕ) : Type 0 where
  -- it is the place of a byte, or the end
  pub within : at ≤ length src
  -- nothing before it is wrong: cut off anywhere before, src is only too short, and so refused at its end
  pub before : (n : ℕ) → n < at → read (take n src) ≡ Err (NotEncoded n)
  -- what is wrong there is so whatever follows
  pub after : at < length src → (more : List ℕ) → read (src ++ more) ≡ Err (NotEncoded at)

-- by an encoder that gives these bytes, src was read as r, and any bytes are as `read` says
pub record Placed (bytes : Header → List ℕ) (read : List ℕ → Result Header ReadError) (src : List ℕ) (r : Result Header ReadError) : Type 0 where
  -- a refusal tells the first fault
  pub first : (at : ℕ) → r ≡ Err (NotEncoded at) → FirstFault read src at
  -- a header that is cut off is at fault at the end
  pub short : (h : Header) → Fits h → (n : ℕ) → n < length (bytes h) → src ≡ take n (bytes h) → r ≡ Err (NotEncoded n)
  -- a header that more follows is at fault right past it
  pub spare : (h : Header) → Fits h → (b : ℕ) (more : List ℕ) → src ≡ bytes h ++ b ∷ more → r ≡ Err (NotEncoded (length (bytes h)))

-- a described value of another kind is at fault in its descriptor: where the number stands, or its code where that is all of it
abbrev pub OtherKind : Form → List ℕ → Result Header ReadError → Type 0
OtherKind F src r =
    (code : ℕ) → code < 2 ^ 64 → code ≢ 0x14 → code ≢ 0x15 → Has src 0 (0x00 ∷ encoded F (ulong code)) → r ≡ Err (NotEncoded (min 2 (length (encoded F (ulong code)))))

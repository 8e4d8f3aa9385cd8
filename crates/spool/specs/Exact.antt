-- A record is read from its bytes and from nothing else.
use Rattle.std.specs.Prelude.{◌≡◌, ℕ, ◌+◌, ◌^◌, ◌<◌, List, ◌++◌, length, drop, Ok, Result}
use Rattle.codec.specs.declared.error.ReadError.{ReadError}
use Rattle.codec.specs.Headers.{compact_bytes}
use Rattle.reader.specs.Fits.{Fits as HeaderFits}
use Rattle.sink.specs.Frames.{Frame}
use Rattle.spool.specs.Records.{record_of}

-- the numbers of the frame, and its record's length, fit their types
pub record FrameFits (f : Frame) : Type 0 where
  pub handle : f.handle < 2 ^ 32
  pub header : HeaderFits f.header
  pub rest : 8 + length (compact_bytes f.header) + length f.payload < 2 ^ 32

-- at the front of these bytes a record was read as r
pub record Exact (bytes : List ℕ) (r : Result (Frame × ℕ) ReadError) : Type 0 where
  -- what is read stands there as its record, and as many bytes are told
  pub only : (f : Frame) (n : ℕ) → r ≡ Ok (f, n) → (bytes ≡ record_of f ++ drop n bytes) × (n ≡ length (record_of f))
  -- a record that stands there is read, whatever follows it
  pub back : (f : Frame) (more : List ℕ) → FrameFits f → bytes ≡ record_of f ++ more → r ≡ Ok (f, length (record_of f))

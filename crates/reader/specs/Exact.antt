-- A header is read from its bytes and from nothing else.
use Rattle.std.specs.Prelude.{◌≡◌, ℕ, List, Ok, Result}
use Rattle.amqp.specs.declared.header.Header.{Header}
use Rattle.codec.specs.declared.error.ReadError.{ReadError}
use Rattle.reader.specs.Fits.{Fits}

-- by an encoder that gives these bytes, src was read as r
pub record Exact (bytes : Header → List ℕ) (src : List ℕ) (r : Result Header ReadError) : Type 0 where
  -- what is read is what is written for it
  pub only : (h : Header) → r ≡ Ok h → src ≡ bytes h
  -- what is written is read back
  pub back : (h : Header) → Fits h → src ≡ bytes h → r ≡ Ok h

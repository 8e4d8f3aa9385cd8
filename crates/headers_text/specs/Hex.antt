-- Bytes as pairs of lower-case hexadecimal digits.
use Rattle.std.specs.Prelude.{◌≡◌, ℕ, ◌+◌, ◌*◌, ◌/◌, ◌%◌, ◌<◌, ◌≤◌, ◌⊎◌, false, List, [], ◌∷◌, ◌++◌, length, take, Ok, Err, Result, get_or}
use Rattle.std.specs.Fmt.{digit_glyph}
use Rattle.headers_text.specs.declared.hex.HexFault.{HexFault}
use Rattle.headers_text.specs.declared.hex.HexFault.TheVariants.{Odd, NoDigit, Memory}

-- the digit of a value below 16
abbrev pub glyph : ℕ → ℕ
glyph d = digit_glyph false d

abbrev pub Digit : ℕ → Type 0
Digit b = ((48 ≤ b) × (b ≤ 57)) ⊎ ((97 ≤ b) × (b ≤ 102))

-- the text of some bytes
abbrev pub pairs : List ℕ → List ℕ
pairs [] = []
pairs (v ∷ vs) = glyph (v / 16) ∷ glyph (v % 16) ∷ pairs vs

pub record Pair (high low v : ℕ) : Type 0 where
  pub small : v < 256
  pub first : high ≡ glyph (v / 16)
  pub second : low ≡ glyph (v % 16)

-- the text is that of the bytes that were added
pub record Added (text old new : List ℕ) : Type 0 where
  pub bytes : List ℕ
  pub written : text ≡ pairs bytes
  pub after : new ≡ old ++ bytes

-- the bytes of the text's first pairs were added
pub record Begun (text old new : List ℕ) : Type 0 where
  pub bytes : List ℕ
  pub written : take (length (pairs bytes)) text ≡ pairs bytes
  pub after : new ≡ old ++ bytes

-- the pair that n others come before has a byte that is no digit
pub record Undigital (text : List ℕ) (n : ℕ) : Type 0 where
  pub within : 2 * n + 1 < length text
  pub fault : (Digit (get_or text (2 * n) 0) → ⊥) ⊎ (Digit (get_or text (2 * n + 1) 0) → ⊥)

-- the bytes of all pairs before the first such one were added
pub record Stopped (text old new : List ℕ) : Type 0 where
  pub begun : Begun text old new
  pub fault : Undigital text (length begun.bytes)

-- the text's bytes were added; or the text is odd, and nothing was; or those before a byte that is no digit were, or those of some first pairs, when memory ran out
abbrev pub Decoded : Result (Unit {0}) HexFault → List ℕ → List ℕ → List ℕ → Type 0
Decoded (Ok _) text old new = Added text old new
Decoded (Err Odd) text old new = new ≡ old
Decoded (Err NoDigit) text old new = Stopped text old new
Decoded (Err Memory) text old new = Begun text old new

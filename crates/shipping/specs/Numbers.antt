-- Numbers in decimal digits, with no sign.
use Rattle.std.specs.Prelude.{◌≡◌, ℕ, ◌^◌, ◌<◌, List, Some, None, Option, ◌≢◌, slice_index}
use Rattle.std.specs.Str.Parse.{IsNumeral, digits_value}

-- digits, and nothing before them: 43 is a plus
abbrev pub Bare : List ℕ → Type 0
Bare text = IsNumeral 10 text × (slice_index text 0 ≢ 43)

-- the number that the digits write, where it has 32 bits
abbrev pub Reads : List ℕ → Option ℕ → Type 0
Reads text None = Bare text → digits_value 10 text < 2 ^ 32 → ⊥
Reads text (Some n) = Bare text × (digits_value 10 text ≡ n) × (n < 2 ^ 32)

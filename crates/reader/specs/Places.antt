-- Reading at a place: what stands there with the place after it, or the place of the fault.
use Rattle.std.specs.Prelude.{◌≡◌, ℕ, zero, suc, ◌+◌, ◌-◌, ◌*◌, ◌<◌, ◌≤◌, min, cond, List, [], ◌∷◌, length, Ok, Err, Result, ◌==◌, nat_lt, slice_index}

abbrev pub Found : Type 0 → Type 0
Found A = Result (A × ℕ) ℕ

abbrev pub Reader : Type 0 → Type 0
Reader A = List ℕ → ℕ → Found A

-- a place among the fields of a list, and how many of them are still to come
pub record Cursor : Type 0 where
  pub at : ℕ
  pub left : ℕ

-- the first fault ends the reading
abbrev pub then : {A B : Type 0} → Result A ℕ → (A → Result B ℕ) → Result B ℕ
then (Ok x) f = f x
then (Err e) f = Err e

-- this byte, and nothing else
abbrev pub byte_at : ℕ → List ℕ → ℕ → Result ℕ ℕ
byte_at b src at = cond (nat_lt at (length src)) (cond (slice_index src at == b) (Ok (at + 1)) (Err at)) (Err at)

-- this code with so many bytes after it: where they begin
abbrev pub coded_at : ℕ → ℕ → List ℕ → ℕ → Result ℕ ℕ
coded_at code width src at = then (byte_at code src at) (λ p. cond (nat_lt (length src) (p + width)) (Err (length src)) (Ok p))

-- n bytes from start, at most so many: n itself stands at p
abbrev pub sized_of : List ℕ → ℕ → ℕ → ℕ → ℕ → Found ℕ
sized_of src most n p start = cond (nat_lt most n) (Err p) (cond (nat_lt (length src) (start + n)) (Err (length src)) (Ok (n, start)))

-- where the value of a code begins: after the code, or at it where nothing follows
abbrev pub value_place : ℕ → ℕ → ℕ
value_place at end = min (at + 1) (end - 1)

-- the number of so many bytes, the highest first
abbrev pub number : ℕ → List ℕ → ℕ → ℕ
number zero src at = 0
number (suc n) src at = number n src at * 256 + slice_index src (at + n)

-- src has these bytes at this place
abbrev pub Has : List ℕ → ℕ → List ℕ → Type 0
Has src at [] = at ≤ length src
Has src at (b ∷ bs) = (at < length src) × (slice_index src at ≡ b) × Has src (at + 1) bs

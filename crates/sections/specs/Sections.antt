-- The sections of a message, and the positions in them (Part 3, 3.2 and 3.4.1).
use Rattle.std.specs.Prelude.{◌≡◌, ℕ, zero, suc, ◌+◌, ◌-◌, ◌<◌, ◌≤◌, Bool, true, false, cond, ◌&&◌, ◌||◌, ◌==◌, List, length, Option, nat_le, slice_index, MatchOption}
use Rattle.std.specs.List.{find, range_with_len}
use Rattle.amqp.specs.declared.state.Received.{Received}

-- the three bytes by which the beginning of a section is told: that of a described value, the code of a descriptor in one byte or
-- in eight, and a section's code, from header to footer. What stands around them is not looked at
abbrev pub section_header : ℕ → ℕ → ℕ → Bool
section_header b0 b1 b2 = b0 == 0 && ((b1 == 83 || b1 == 128) && (nat_le 112 b2 && nat_le b2 120))

-- a section begins at i
abbrev pub begins_at : List ℕ → ℕ → Bool
begins_at msg i = section_header (slice_index msg i) (slice_index msg (i + 1)) (slice_index msg (i + 2))

-- how many sections begin before i
abbrev pub begun_before : List ℕ → ℕ → ℕ
begun_before msg zero = 0
begun_before msg (suc i) = begun_before msg i + cond (begins_at msg i) 1 0

-- position i is in a place's section, and as many bytes past the section's first as the place's offset says
abbrev pub lies_at : List ℕ → Received → ℕ → Bool
lies_at msg place i =
    let start = i - place.section_offset in
    nat_le place.section_offset i
    && (begins_at msg start && (begun_before msg start == place.section_number && begun_before msg (i + 1) == place.section_number + 1))

-- where a place is in a message: three bytes are left there at least
abbrev pub start_of : List ℕ → Received → Option ℕ
start_of msg place = find (lies_at msg place) (range_with_len 0 (length msg - 2))

-- Position i is a place's: a section begins `section_offset` bytes before it, `section_number` sections begin before that one,
-- and none begins after it up to i.
pub record IsAt (msg : List ℕ) (place : Received) (i : ℕ) : Type 0 where
  pub inside : i + 3 ≤ length msg
  pub start : ℕ
  pub offset : start + place.section_offset ≡ i
  pub begins : begins_at msg start ≡ true
  pub number : begun_before msg start ≡ place.section_number
  pub no_later : (k : ℕ) → start < k → k ≤ i → begins_at msg k ≡ false

-- the answer is the one position of the place, and none where there is none
abbrev pub OnePosition : List ℕ → Received → Option ℕ → Type 0
OnePosition msg place r = MatchOption r ((i : ℕ) → IsAt msg place i → ⊥) (λ i. IsAt msg place i × ((j : ℕ) → IsAt msg place j → j ≡ i))

-- no section begins from position a up to b, which does not count
abbrev pub NoneBegins : List ℕ → ℕ → ℕ → Type 0
NoneBegins msg a b = (k : ℕ) → a ≤ k → k < b → begins_at msg k ≡ false

-- the first section that begins at `from` or past it
abbrev pub NextSection : List ℕ → ℕ → Option ℕ → Type 0
NextSection msg from r =
    MatchOption r (NoneBegins msg from (length msg)) (λ i. (from ≤ i) × (i + 3 ≤ length msg) × (begins_at msg i ≡ true) × NoneBegins msg from i)

-- the section before which so many begin
abbrev pub NumberedSection : List ℕ → ℕ → Option ℕ → Type 0
NumberedSection msg number r =
    MatchOption r ((i : ℕ) → begins_at msg i ≡ true → begun_before msg i ≡ number → ⊥)
    (λ i. (i + 3 ≤ length msg) × (begins_at msg i ≡ true) × (begun_before msg i ≡ number))

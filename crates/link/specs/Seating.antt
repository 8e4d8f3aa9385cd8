-- Which seats are taken, and by which numbers.
use Rattle.std.specs.Prelude.{◌≡◌, ℕ, ◌<◌, ◌≤◌, true, List, length, is_some, Some, None, Option, slice_index_or}
use Rattle.link.specs.declared.seat.Seat.{Seat}
use Rattle.link.specs.declared.seat.Seat.TheVariants.{Free, Pending, Ended}

-- the number that has a seat
abbrev pub number_of : Seat → Option ℕ
number_of Free = None
number_of (Pending n) = Some n
number_of (Ended n o) = Some n

-- the first n seats are taken
pub record Taken (n : ℕ) (ss : List Seat) : Type 0 where
  pub within : n ≤ length ss
  pub each : (k : ℕ) (d : Seat) → k < n → is_some (number_of (slice_index_or ss k d)) ≡ true

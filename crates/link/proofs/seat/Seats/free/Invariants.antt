use Rattle.std.proofs.Common.{◌≡◌, ℕ, ◌<◌, ◌≤◌, false, length, get_or}
use Rattle.link.specs.declared.seat.Seat.TheVariants.{Free}
use Rattle.link.specs.Seats.{is_free}
use Rattle.link.proofs.seat.Seats.free.Given as goal

abbrev pub invariant-loop-i : goal.invariant-loop-i
invariant-loop-i l = record {
  within : l.i ≤ length l.seats;
  before : (k : ℕ) → k < l.i → is_free (get_or l.seats k Free) ≡ false;
}

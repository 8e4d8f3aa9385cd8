-- Seats: where a delivery's outcome waits for its ticket.
use Rattle.std.specs.Prelude.{ℕ, Bool, true, false, List, Some, None, Option, Result, ◌==◌}
use Rattle.std.specs.List.{find}
use Rattle.std.specs.Option.{ok_or, option_map}
use Rattle.amqp.specs.declared.error.TicketError.{TicketError}
use Rattle.amqp.specs.declared.error.TicketError.TheVariants.{NoSeat}
use Rattle.unsettled.specs.Lists.{replaced}
use Rattle.link.specs.declared.delivery.Outcome.{Outcome}
use Rattle.link.specs.declared.seat.Seat.{Seat}
use Rattle.link.specs.declared.seat.Seat.TheVariants.{Free, Pending, Ended}
use Rattle.link.specs.declared.seat.Seats.{Seats}

-- what the seats hold
abbrev pub seated : Seats → List Seat
seated s = s.seats.now

abbrev pub is_free : Seat → Bool
is_free Free = true
is_free (Pending n) = false
is_free (Ended n o) = false

-- the seat is that of a number
abbrev pub sits : ℕ → Seat → Bool
sits t Free = false
sits t (Pending n) = n == t
sits t (Ended n o) = n == t

-- how its delivery ended, if it has
abbrev pub told : Seat → Option Outcome
told Free = None
told (Pending n) = None
told (Ended n o) = Some o

-- the first free seat waits for the number's outcome
abbrev pub sit : ℕ → List Seat → List Seat
sit n ss = replaced is_free (Pending n) ss

-- the number's seat, if there is one, keeps the outcome
abbrev pub tell : ℕ → Outcome → List Seat → List Seat
tell n o ss = replaced (sits n) (Ended n o) ss

abbrev pub vacate : ℕ → List Seat → List Seat
vacate n ss = replaced (sits n) Free ss

-- what the number's seat tells, if there is one
abbrev pub seat_of : ℕ → List Seat → Option (Option Outcome)
seat_of n ss = option_map told (find (sits n) ss)

-- the answer that a ticket of this number gets
abbrev pub seat_answer : ℕ → List Seat → Result (Option Outcome) TicketError
seat_answer n ss = ok_or (seat_of n ss) NoSeat

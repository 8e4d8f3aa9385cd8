-- The first seat that passes a test: what it tells, and what is left when it is written.
use Rattle.std.proofs.Common.{◌≡◌, ℕ, Bool, List, get_or, set, Some, None, Ok, Err, Option, sym, ap, ◌∙◌}
use Rattle.std.specs.List.{position}
use Rattle.std.specs.Option.{ok_or, option_map}
use Rattle.amqp.specs.declared.error.TicketError.{TicketError}
use Rattle.amqp.specs.declared.error.TicketError.TheVariants.{NoSeat}
use Rattle.unsettled.specs.Lists.{replaced}
use Rattle.unsettled.proofs.Firsts.{first_at, nowhere}
use Rattle.link.specs.declared.seat.Seat.{Seat}
use Rattle.link.specs.Seats.{sits, told, seat_answer}

pub written_at : (p : Seat → Bool) (y : Seat) (ss : List Seat) (i : ℕ) → Some i ≡ position p ss → set ss i y ≡ replaced p y ss
written_at p y ss i e = (first_at p ss i e).written y

pub written_nowhere : (p : Seat → Bool) (y : Seat) (ss : List Seat) → None ≡ position p ss → ss ≡ replaced p y ss
written_nowhere p y ss e = (nowhere p ss e).written y

pub seat_at : (n : ℕ) (ss : List Seat) (o : Option ℕ) (i : ℕ) (d : Seat) → o ≡ position (sits n) ss → ok_or o NoSeat ≡ Ok i → Ok (told (get_or ss i d)) ≡ seat_answer n ss
seat_at n ss None i d e h = absurd (cc)
seat_at n ss (Some j) i d e h =
    let k : j ≡ i = cc in
    sym (ap (λ o. ok_or (option_map told o) NoSeat) ((first_at (sits n) ss i (sym (ap Some k) ∙ e)).found d))

pub seat_nowhere : (n : ℕ) (ss : List Seat) (o : Option ℕ) (x : TicketError) → o ≡ position (sits n) ss → ok_or o NoSeat ≡ Err x → Err x ≡ seat_answer n ss
seat_nowhere n ss None x e h =
    let k : x ≡ NoSeat = cc in
    ap Err k ∙ sym (ap (λ o. ok_or (option_map told o) NoSeat) (nowhere (sits n) ss e).found)
seat_nowhere n ss (Some j) x e h = absurd (cc)

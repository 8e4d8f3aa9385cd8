use Rattle.std.proofs.Common.{sym, ◌∙◌, arith}
use Rattle.unsettled.specs.Indexes.{keys_of}
use Rattle.unsettled.proofs.Indexes.{keys_len}
use Rattle.link.proofs.Seating.{seat_first, seat_nowhere}
use Rattle.link.proofs.seat.Seats.find.Goals as goal

pub returns-in-Some-clause-found : goal.returns-in-Some-clause-found
returns-in-Some-clause-found c =
    let s = c.args.self.now in
    seat_first c.args.number (keys_of s.index) s.seats.now c.in-Some.i s.keyed c.if-i-self.true (sym c.in-Some.is ∙ c.find.ensures)

pub returns-in-None-clause-found : goal.returns-in-None-clause-found
returns-in-None-clause-found c =
    let s = c.args.self.now in
    let n = keys_len s.index in
    seat_nowhere c.args.number (keys_of s.index) s.seats.now s.keyed (omega (arith, n, c.if-self-le-PLACES.true)) (sym c.in-None.is ∙ c.find.ensures)

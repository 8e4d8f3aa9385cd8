use Rattle.std.proofs.Common.{sym, arith}
use Rattle.link.specs.declared.seat.Seat.TheVariants.{Free}
use Rattle.link.specs.Seats.{is_free, seated}
use Rattle.unsettled.proofs.Firsts.{place_is, no_place}
use Rattle.link.proofs.Seating.{none_before}
use Rattle.link.proofs.seat.Seats.free.Goals as goal

pub loop-i-init : goal.loop-i-init
loop-i-init c =
    let s = c.args.self.now in
    record { within = s.full.within; before = none_before s.taken s.seats.now s.full }

pub returns-then-is_free-clause-found : goal.returns-then-is_free-clause-found
returns-then-is_free-clause-found c =
    let l = c.loop-i in
    place_is is_free (seated c.args.self.now) l.i Free c.loop-i-test.true l.invariant.before (sym c.if-is_free.ensures)

pub returns-clause-found : goal.returns-clause-found
returns-clause-found c =
    let l = c.loop-i in
    no_place is_free (seated c.args.self.now) Free (λ k lt. l.invariant.before k (omega (arith, c.loop-i-test.false)))

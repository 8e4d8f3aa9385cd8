use Rattle.std.proofs.Common.{Ok, sym, ap, ◌∙◌}
use Rattle.std.proofs.lemmas.Result.{err_from_is_err_and}
use Rattle.link.specs.Seats.{seated}
use Rattle.unsettled.specs.Indexes.{keys_of}
use Rattle.link.proofs.Seating.{vacated_keyed}
use Rattle.link.proofs.Places.{seat_at, seat_nowhere}
use Rattle.link.proofs.seat.Seats.vacate.Goals as goal

pub returns-in_err-i-clause-answer : goal.returns-in_err-i-clause-answer
returns-in_err-i-clause-answer c =
    let p = err_from_is_err_and c.from_residual.result c.from_residual.ensures.1 in
    rw (p.1, p.2) (seat_nowhere c.args.number (seated c.args.self.now) c.find.result _ c.find.ensures.found (sym c.ok_or.ensures.value ∙ c.in_err-i.was))

pub returns-clause-answer : goal.returns-clause-answer
returns-clause-answer c =
    ap Ok c.outcome.ensures
    ∙ seat_at c.args.number (seated c.args.self.now) c.find.result c.in_ok-i.i _ c.find.ensures.found (sym c.ok_or.ensures.value ∙ c.in_ok-i.was)

pub invariant_of-self-2-clause-keyed : goal.invariant_of-self-2-clause-keyed
invariant_of-self-2-clause-keyed c =
    let s = c.args.self.now in
    vacated_keyed c.args.number (keys_of s.index) _ s.seats.now _ c.find.result c.in_ok-i.i _ s.keyed c.find.ensures.found (sym c.ok_or.ensures.value ∙ c.in_ok-i.was) c.write.ensures.seats c.write.ensures.keys

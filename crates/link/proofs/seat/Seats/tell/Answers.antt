use Rattle.std.proofs.Common.{refl}
use Rattle.unsettled.specs.Indexes.{keys_of}
use Rattle.link.proofs.Seating.{told_keyed, told_taken}
use Rattle.link.proofs.seat.Seats.tell.Goals as goal

pub invariant_of-self : goal.invariant_of-self
invariant_of-self c =
    let s = c.args.self.now in
    record {
      keyed = told_keyed c.args.number (keys_of s.index) s.seats.now c.in-Some.i _ s.keyed refl c.in-Some.ensures.found;
      full = told_taken s.taken c.in-Some.i s.seats.now _ s.full c.in-Some.ensures.within refl;
    }

use Rattle.std.proofs.Common.{refl}
use Rattle.unsettled.specs.Indexes.{keys_of}
use Rattle.link.proofs.Seating.{seat_written, sat_written}
use Rattle.link.proofs.seat.Seats.sit.Goals as goal

pub invariant_of-self : goal.invariant_of-self
invariant_of-self c =
    let s = c.args.self.now in
    record {
      keyed = seat_written (keys_of s.index) _ s.seats.now _ c.in-Some.i _ s.keyed c.in-Some.ensures.within c.write.ensures.seats c.write.ensures.keys;
      full = sat_written c.in-Some.i s.seats.now _ _ c.write.ensures.seats c.in-Some.ensures.found refl;
    }

use Rattle.std.proofs.Common.{length, arith}
use Rattle.unsettled.specs.Indexes.{keys_of}
use Rattle.link.proofs.Seating.{nobody_sits}
use Rattle.link.proofs.seat.Seats.new.Goals as goal

pub invariant_of-result : goal.invariant_of-result
invariant_of-result c =
    record {
      keyed = nobody_sits (length c.args.seats.now) (keys_of c.new.result) c.fill.new.self c.new.ensures (c.fill.ensures.after (λ y e. e));
      full = record { within = omega arith; each = λ k d a. absurd (omega arith) };
    }

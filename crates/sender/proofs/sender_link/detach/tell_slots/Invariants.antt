use Rattle.std.proofs.Common.{◌≡◌, take}
use Rattle.link.specs.Detaching.{all_end}
use Rattle.link.specs.Seats.{seated}
use Rattle.link.specs.Turns.{tell_all}
use Rattle.sender.proofs.sender_link.detach.tell_slots.Given as goal

abbrev pub invariant-loop-slot : goal.invariant-loop-slot
invariant-loop-slot l = seated l.seats ≡ tell_all (all_end l.outcome (take l.slot-index l.slots)) (seated l.fn.seats)

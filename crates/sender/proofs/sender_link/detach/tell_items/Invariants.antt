use Rattle.std.proofs.Common.{◌≡◌, take}
use Rattle.link.specs.Detaching.{all_end}
use Rattle.link.specs.Resuming.{listed}
use Rattle.link.specs.Seats.{seated}
use Rattle.link.specs.Turns.{tell_all}
use Rattle.sender.proofs.sender_link.detach.tell_items.Given as goal

abbrev pub invariant-loop-item : goal.invariant-loop-item
invariant-loop-item l = seated l.seats ≡ tell_all (all_end l.outcome (listed (take l.item-index l.items))) (seated l.fn.seats)

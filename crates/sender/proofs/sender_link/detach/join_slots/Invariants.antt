use Rattle.std.proofs.Common.{◌≡◌, take}
use Rattle.unsettled.specs.Tables.{held, room}
use Rattle.sender.proofs.Detaching.{Joining}
use Rattle.sender.proofs.sender_link.detach.join_slots.Given as goal

abbrev pub invariant-loop-slot : goal.invariant-loop-slot
invariant-loop-slot l = record { joining : Joining (held l.fn.table) (take l.slot-index l.slots) (held l.table); room : room l.table ≡ room l.fn.table }

use Rattle.std.proofs.Common.{◌≡◌, take}
use Rattle.link.specs.Resuming.{listed}
use Rattle.unsettled.specs.Tables.{held, room}
use Rattle.sender.proofs.Detaching.{Joining}
use Rattle.sender.proofs.sender_link.detach.join_items.Given as goal

abbrev pub invariant-loop-item : goal.invariant-loop-item
invariant-loop-item l = record { joining : Joining (held l.fn.table) (listed (take l.item-index l.items)) (held l.table); room : room l.table ≡ room l.fn.table }

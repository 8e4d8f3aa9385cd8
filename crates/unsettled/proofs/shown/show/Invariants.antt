use Rattle.std.proofs.Common.{◌≡◌, ◌++◌, map, take, drop}
use Rattle.unsettled.specs.Shown.{shown_slot}
use Rattle.unsettled.proofs.shown.show.Given as goal

abbrev pub invariant-loop-i : goal.invariant-loop-i
invariant-loop-i g l = l.out ≡ map (shown_slot g.M.AsDeliveryState.state) (take l.i l.slots) ++ drop l.i l.initial.out

use Rattle.std.proofs.Common.{length, ◌-◌}
use Rattle.ship.proofs.spooling.count.Given as goal

abbrev pub decreases-loop-next : goal.decreases-loop-next
decreases-loop-next l = length l.log - l.at

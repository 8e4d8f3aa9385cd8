use Rattle.std.proofs.Common.{◌≤◌}
use Rattle.workloads.proofs.sends.ship_all.Given as goal

abbrev pub invariant-loop-n : goal.invariant-loop-n
invariant-loop-n g l = l.shipped ≤ l.n

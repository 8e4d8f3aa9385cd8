use Rattle.std.proofs.Common.{◌≤◌}
use Rattle.workloads.proofs.headers.measure_all.Given as goal

abbrev pub invariant-loop-count : goal.invariant-loop-count
invariant-loop-count g l = l.measured ≤ l.count

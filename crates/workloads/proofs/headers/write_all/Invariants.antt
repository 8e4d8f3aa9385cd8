use Rattle.std.proofs.Common.{◌≤◌}
use Rattle.workloads.proofs.headers.write_all.Given as goal

abbrev pub invariant-loop-count : goal.invariant-loop-count
invariant-loop-count g l = l.written ≤ l.count

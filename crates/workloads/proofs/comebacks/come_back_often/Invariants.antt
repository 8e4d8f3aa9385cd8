use Rattle.std.proofs.Common.{◌≤◌}
use Rattle.workloads.proofs.comebacks.come_back_often.Given as goal

abbrev pub invariant-loop-n : goal.invariant-loop-n
invariant-loop-n l = l.back ≤ l.n

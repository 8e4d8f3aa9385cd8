use Rattle.std.proofs.Common.{◌≤◌, ◌+◌}
use Rattle.workloads.specs.Berths.{outcomes}
use Rattle.workloads.proofs.berth.Berth.fill.Given as goal

abbrev pub invariant-loop-n : goal.invariant-loop-n
invariant-loop-n l = outcomes l.self ≤ outcomes l.initial.self + l.n

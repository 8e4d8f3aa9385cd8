use Rattle.std.proofs.Common.{◌≤◌, ◌+◌}
use Rattle.workloads.specs.Berths.{outcomes}
use Rattle.workloads.proofs.dispositions.dabberblue_work_turns.Given as goal

abbrev pub invariant-loop-n : goal.invariant-loop-n
invariant-loop-n l = outcomes l.berth ≤ l.entries + l.n

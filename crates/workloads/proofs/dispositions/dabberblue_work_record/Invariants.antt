use Rattle.std.proofs.Common.{◌≤◌}
use Rattle.workloads.specs.Berths.{outcomes}
use Rattle.workloads.proofs.dispositions.dabberblue_work_record.Given as goal

abbrev pub invariant-loop-n : goal.invariant-loop-n
invariant-loop-n l = outcomes l.berth ≤ l.entries

abbrev pub invariant-loop-n-2 : goal.invariant-loop-n-2
invariant-loop-n-2 l = outcomes l.berth ≤ l.entries

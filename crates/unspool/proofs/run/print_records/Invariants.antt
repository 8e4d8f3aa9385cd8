use Rattle.std.proofs.Common.{length, ◌-◌}
use Rattle.unspool.proofs.run.print_records.Given as goal

abbrev pub decreases-loop-at : goal.decreases-loop-at
decreases-loop-at g l = length l.bytes - l.at

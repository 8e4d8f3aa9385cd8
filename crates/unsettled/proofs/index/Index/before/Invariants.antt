use Rattle.std.proofs.Common.{◌-◌, ◌<◌, IfSome}
use Rattle.unsettled.specs.Threads.{LeadsTo, Before}
use Rattle.unsettled.specs.Indexes.{keys_of}
use Rattle.unsettled.proofs.index.Index.before.Given as goal

abbrev pub invariant-loop-at : goal.invariant-loop-at
invariant-loop-at l =
    record {
      before : Before (keys_of l.self) l.bucket l.at l.last;
      within : IfSome l.last (λ p. p < l.place);
      lands : LeadsTo (keys_of l.self) l.bucket l.at l.at;
    }

abbrev pub decreases-loop-at : goal.decreases-loop-at
decreases-loop-at l = 1024 - l.at

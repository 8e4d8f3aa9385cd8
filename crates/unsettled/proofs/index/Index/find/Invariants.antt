use Rattle.std.proofs.Common.{◌≡◌, ℕ, ◌-◌, ◌%◌, ◌<◌, false, get_or, None}
use Rattle.unsettled.specs.Threads.{LeadsTo}
use Rattle.unsettled.specs.Indexes.{keys_of, is_key}
use Rattle.unsettled.proofs.index.Index.find.Given as goal

abbrev pub invariant-loop-place : goal.invariant-loop-place
invariant-loop-place l = record {
  passed : (j : ℕ) → j < l.place → is_key l.key (get_or (keys_of l.self) j None) ≡ false;
  lands : LeadsTo (keys_of l.self) (l.key % 2048) l.place l.place;
}

abbrev pub decreases-loop-place : goal.decreases-loop-place
decreases-loop-place l = 1024 - l.place

use Rattle.std.proofs.Common.{◌<◌, ◌≤◌, ℕ, ◌≢◌, length}
use Rattle.unsettled.specs.Indexes.{keys_of}
use Rattle.unsettled.specs.Keyed.{Keyed}
use Rattle.unsettled.specs.Peers.{tag_at, key_of_pair}
use Rattle.unsettled.proofs.peer.has_early_fault.Given as goal

abbrev pub invariant-loop-i : goal.invariant-loop-i
invariant-loop-i l =
    record {
      short : (j : ℕ) → j < l.i → length (tag_at l.pairs j) ≤ 32;
      apart : (j k : ℕ) → j < 1024 → j < k → k < l.i → tag_at l.pairs j ≢ tag_at l.pairs k;
      keyed : Keyed key_of_pair (keys_of l.index) l.i l.pairs;
    }

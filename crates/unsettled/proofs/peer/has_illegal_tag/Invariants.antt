use Rattle.std.proofs.Common.{◌<◌, ◌≤◌, ◌-◌, ℕ, ◌≢◌, length}
use Rattle.unsettled.specs.Peers.{tag_at}
use Rattle.unsettled.proofs.peer.has_illegal_tag.Given as goal

abbrev pub invariant-loop-from : goal.invariant-loop-from
invariant-loop-from l =
    record {
      short : (j : ℕ) → 0 < l.from → j < length l.pairs → length (tag_at l.pairs j) ≤ 32;
      apart : (j k : ℕ) → j < l.from → j < k → k < length l.pairs → tag_at l.pairs j ≢ tag_at l.pairs k;
    }

abbrev pub decreases-loop-from : goal.decreases-loop-from
decreases-loop-from l = length l.pairs - l.from

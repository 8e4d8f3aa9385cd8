use Rattle.std.proofs.Common.{◌≡◌, ◌+◌, max, length}
use Rattle.sink.specs.Cuts.{count_of}
use Rattle.sink.proofs.Cutting.{Begun}
use Rattle.sink.proofs.split.split.Given as goal

-- The first frame was put before the loop.
abbrev pub invariant-loop-i : goal.invariant-loop-i
invariant-loop-i g l =
    let m = g.S.Sink.model in
    let share = max 1 l.fn.share in
    let parts = l.i-iterator.iter in
    record {
      size : parts.size ≡ share;
      all : l.count + 1 ≡ count_of (length l.message) share;
      begun : Begun (m l.fn.sink) (m l.sink) l.transfer l.handle share l.message (l.i-iterator.count + 1) parts.rest.now;
    }

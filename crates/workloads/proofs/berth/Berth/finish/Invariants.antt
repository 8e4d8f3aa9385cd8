use Rattle.std.proofs.Common.{◌≤◌, ◌+◌}
use Rattle.std.specs.VecDeque.{deque_len}
use Rattle.workloads.specs.Berths.{outcomes}
use Rattle.workloads.proofs.berth.Berth.finish.Given as goal

abbrev pub invariant-loop-ticket : goal.invariant-loop-ticket
invariant-loop-ticket l = l.accepted + deque_len l.tickets ≤ outcomes l.fn.self

abbrev pub decreases-loop-ticket : goal.decreases-loop-ticket
decreases-loop-ticket l = deque_len l.tickets

use Rattle.std.proofs.Common.{arith}
use Rattle.queue.proofs.Waiting.{length_frames}
use Rattle.queue.proofs.queue.Queue.into_memory.Goals as goal

pub returns-clause-places : goal.returns-clause-places
returns-clause-places c =
    let q = c.args.self in
    omega (arith, length_frames q.places.items q.bytes.items q.widest q.places.len q.head q.used, q.ring.1)

use Rattle.unsettled.proofs.Threads.{inserted_first, inserted_after}
use Rattle.unsettled.proofs.index.Index.insert.Goals as goal
use Rattle.unsettled.proofs.index.Index.insert.Goals.{in-Some, in-None}

pub invariant_of-self : goal.invariant_of-self
invariant_of-self c =
    let i = c.args.self.now in
    let r = c.requires in
    let b = c.bucket_of-bucket in
    record {
      threaded = elim c.match-before.branch [
        | in-Some w ↦ rw w.self-is (inserted_after i.heads i.next i.keys b.result c.args.place w.in-Some.last c.args.key i.threaded r.place r.free b.ensures.value (w.in-Some.ensures))
        | in-None w ↦ rw w.self-is (inserted_first i.heads i.next i.keys b.result c.args.place c.args.key i.threaded r.place b.ensures.within r.free b.ensures.value (w.in-None.ensures))
      ];
    }

use Rattle.std.proofs.Common.{◌≡◌, true, sym, ap, ◌∙◌}
use Rattle.std.proofs.lemmas.Bool.{eq-eqb}
use Rattle.unsettled.specs.Threads.{in_bucket, key_at}
use Rattle.unsettled.proofs.Threads.{removed_first, removed_after}
use Rattle.unsettled.proofs.index.Index.remove.Goals as goal
use Rattle.unsettled.proofs.index.Index.remove.Goals.{in-Some-before, in-None}

pub invariant_of-self : goal.invariant_of-self
invariant_of-self c =
    let i = c.args.self.now in
    let place = c.args.place in
    let lt = c.if-place-lt-PLACES.true in
    let b = c.bucket_of-bucket in
    let here : in_bucket b.result (key_at i.keys place) ≡ true = ap (in_bucket b.result) c.in-Some.is ∙ eq-eqb _ _ (sym b.ensures.value) in
    record {
      threaded = elim c.match-before.branch [
        | in-Some-before w ↦ rw w.self-is (removed_after i.heads i.next i.keys b.result place w.in-Some-before.last i.threaded lt here (w.in-Some-before.ensures))
        | in-None w ↦ rw w.self-is (removed_first i.heads i.next i.keys b.result place i.threaded lt b.ensures.within here (w.in-None.ensures))
      ];
    }

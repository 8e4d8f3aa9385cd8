use Rattle.std.proofs.Common.{set, Some, None, ap, ◌∙◌}
use Rattle.std.proofs.lemmas.List.{set-set}
use Rattle.unsettled.specs.Indexes.{keys_of}
use Rattle.unsettled.proofs.index.Index.put.Goals as goal

pub returns-then-place-lt-PLACES : goal.returns-then-place-lt-PLACES
returns-then-place-lt-PLACES c =
    c.insert.ensures
    ∙ ap (λ ks. set ks c.args.place (Some c.args.key)) c.remove.ensures
    ∙ set-set (keys_of c.args.self.now) c.args.place None (Some c.args.key)

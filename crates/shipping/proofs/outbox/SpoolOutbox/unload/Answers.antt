use Rattle.std.proofs.Common.{◌∙◌}
use Rattle.shipping.proofs.Spools.{spool_emptied, on_ok}
use Rattle.shipping.proofs.outbox.SpoolOutbox.unload.Goals as goal

pub returns-clause-sink : goal.returns-clause-sink
returns-clause-sink c =
    let whole = c.deref_mut.ensures.len ∙ c.in_ok-out.ensures.len ∙ c.waiting_bytes.ensures in
    on_ok c.unload_records.result (spool_emptied c.args.self.now _ _ whole c.empty.ensures.after)

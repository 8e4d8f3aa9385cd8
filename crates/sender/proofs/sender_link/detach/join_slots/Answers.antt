use Rattle.std.proofs.Common.{◌∙◌, refl}
use Rattle.unsettled.specs.Tables.{held}
use Rattle.link.proofs.Rows.{err_by}
use Rattle.sender.proofs.Detaching.{join_more, join_stops}
use Rattle.sender.proofs.sender_link.detach.join_slots.Goals as goal

pub returns-in_err-join-clause-joined : goal.returns-in_err-join-clause-joined
returns-in_err-join-clause-joined c =
    let f = c.from_residual.ensures in
    let l = c.loop-slot in
    rw (err_by c.from_residual.result _ f.0 f.1)
    (join_stops (λ xs. xs) (λ xs ys. refl) c.args.slots.now l.slot-index _ c.slot-item.is c.loop-slot-test.true (held c.args.table.now) (held l.table) _ l.invariant.joining _ (rw c.in_err-join.was at c.join.ensures.joined))

pub loop-slot-preserved : goal.loop-slot-preserved
loop-slot-preserved c =
    let l = c.loop-slot in
    record {
      joining = join_more (λ xs. xs) (λ xs ys. refl) c.args.slots.now l.slot-index _ c.slot-item.is c.loop-slot-test.true (held c.args.table.now) (held l.table) _ l.invariant.joining (rw c.in_ok-join.was at c.join.ensures.joined);
      room = c.join.ensures.room ∙ l.invariant.room;
    }

use Rattle.std.proofs.Common.{◌∙◌, arith}
use Rattle.unsettled.specs.Tables.{held, room}
use Rattle.link.specs.Resuming.{listed}
use Rattle.link.proofs.Rows.{err_by}
use Rattle.sender.proofs.Detaching.{listed_++, room as room_left, join_more, join_stops}
use Rattle.sender.proofs.sender_link.detach.join_items.Goals as goal

pub join_item-requires : goal.join_item-requires
join_item-requires c =
    let l = c.loop-item in
    let r = l.invariant.room in
    room_left listed listed_++ c.args.items.now l.item-index _ c.item-item.is c.loop-item-test.true (held c.args.table.now) (held l.table) (room l.table) l.invariant.joining.there (omega (arith, c.requires))

pub returns-in_err-join_item-clause-joined : goal.returns-in_err-join_item-clause-joined
returns-in_err-join_item-clause-joined c =
    let f = c.from_residual.ensures in
    let l = c.loop-item in
    rw (err_by c.from_residual.result _ f.0 f.1)
    (join_stops listed listed_++ c.args.items.now l.item-index _ c.item-item.is c.loop-item-test.true (held c.args.table.now) (held l.table) _ l.invariant.joining _ (rw c.in_err-join_item.was at c.join_item.ensures.joined))

pub loop-item-preserved : goal.loop-item-preserved
loop-item-preserved c =
    let l = c.loop-item in
    record {
      joining = join_more listed listed_++ c.args.items.now l.item-index _ c.item-item.is c.loop-item-test.true (held c.args.table.now) (held l.table) _ l.invariant.joining (rw c.in_ok-join_item.was at c.join_item.ensures.joined);
      room = c.join_item.ensures.room ∙ l.invariant.room;
    }

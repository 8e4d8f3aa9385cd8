use Rattle.std.proofs.Common.{subst}
use Rattle.link.specs.Detaching.{put_back}
use Rattle.link.specs.Resuming.{listed}
use Rattle.link.proofs.Rows.{err_by}
use Rattle.unsettled.specs.Tables.{held}
use Rattle.unsettled.specs.Worklists.{items}
use Rattle.sender.specs.Detaches.{Joined}
use Rattle.sender.proofs.Detaching.{joined_first, joined_then}
use Rattle.sender.proofs.sender_link.SenderLink.join_lists.Goals as goal

pub returns-in_err-join_items-clause-joined : goal.returns-in_err-join_items-clause-joined
returns-in_err-join_items-clause-joined c =
    let f = c.from_residual.ensures in
    let l = c.self.inside in
    subst (λ v. Joined v.held.table (put_back v.held) c.from_residual.result (held c.join_items.new.table)) c.self.view_is
    (rw (err_by c.from_residual.result _ f.0 f.1)
    (joined_first (held l.unsettled) (listed (items l.resume)) (items l.resend) (held c.join_items.new.table) _ (rw (c.in_err-join_items.was, c.front.ensures) at c.join_items.ensures.joined)))

pub returns-clause-joined : goal.returns-clause-joined
returns-clause-joined c =
    let l = c.self.inside in
    subst (λ v. Joined v.held.table (put_back v.held) c.join_slots.result (held c.join_slots.new.table)) c.self.view_is
    (joined_then (held l.unsettled) (listed (items l.resume)) (held c.join_items.new.table) (items l.resend) (held c.join_slots.new.table) c.join_slots.result
    (rw (c.in_ok-join_items.was, c.front.ensures) at c.join_items.ensures.joined) (rw c.front-2.ensures at c.join_slots.ensures.joined))

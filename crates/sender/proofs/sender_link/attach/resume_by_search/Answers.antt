use Rattle.std.proofs.Common.{length, ap, ◌∙◌}
use Rattle.link.specs.Resuming.{resumption}
use Rattle.link.specs.Seats.{seated}
use Rattle.unsettled.specs.Peers.{peers_of}
use Rattle.unsettled.specs.Worklists.{items}
use Rattle.sender.specs.Attaches.{item_by, end_by}
use Rattle.sender.proofs.Attaching.{listed_more, ended_more, few_more}
use Rattle.sender.proofs.sender_link.attach.resume_by_search.Goals as goal

pub loop-slot-preserved : goal.loop-slot-preserved
loop-slot-preserved c =
    let l = c.loop-slot in
    let told = peers_of c.args.pairs.now in
    let d = c.resume_delivery-decided.ensures ∙ ap (resumption _) (c.peer_state.ensures.legal c.requires.legal) in
    let r = rw d at c.resume_as.ensures in
    record {
      listed = listed_more (item_by told) c.args.slots.now l.slot-index _ c.slot-item.is c.loop-slot-test.true (items c.args.resume.now) (items l.resume) _ l.invariant.listed r.listed;
      space = r.space ∙ l.invariant.space;
      few = few_more _ _ (items l.resume) _ (length (items c.args.resume.now)) l.slot-index r.listed l.invariant.few;
      told = ended_more (end_by told) c.args.slots.now l.slot-index _ c.slot-item.is c.loop-slot-test.true (seated c.args.seats.now) (seated l.seats) _ l.invariant.told r.told;
    }

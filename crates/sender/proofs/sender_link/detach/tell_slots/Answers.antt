use Rattle.std.proofs.Common.{ap, ◌∙◌, arith}
use Rattle.std.proofs.lemmas.List.{map-append, take_all}
use Rattle.link.specs.Detaching.{all_end}
use Rattle.link.specs.Seats.{seated}
use Rattle.link.specs.Turns.{tell_all}
use Rattle.sender.proofs.Detaching.{told_more}
use Rattle.sender.proofs.sender_link.detach.tell_slots.Goals as goal

pub loop-slot-preserved : goal.loop-slot-preserved
loop-slot-preserved c =
    let o = c.args.outcome in
    told_more (all_end o) (map-append _) c.args.slots.now c.loop-slot.slot-index _ c.slot-item.is c.loop-slot-test.true (seated c.args.seats.now) (seated c.loop-slot.seats) _ c.loop-slot.invariant c.tell.ensures

pub returns : goal.returns
returns c =
    let xs = c.args.slots.now in
    c.loop-slot.invariant ∙ ap (λ es. tell_all (all_end c.args.outcome es) (seated c.args.seats.now)) (take_all c.loop-slot.slot-index xs (omega (arith, c.loop-slot-test.false)))

use Rattle.std.proofs.Common.{ap, ◌∙◌, arith}
use Rattle.std.proofs.lemmas.List.{map-append, take_all}
use Rattle.link.specs.Detaching.{all_end}
use Rattle.link.specs.Resuming.{listed}
use Rattle.link.specs.Seats.{seated}
use Rattle.link.specs.Turns.{tell_all}
use Rattle.sender.proofs.Detaching.{told_more, listed_++}
use Rattle.sender.proofs.sender_link.detach.tell_items.Goals as goal

pub loop-item-preserved : goal.loop-item-preserved
loop-item-preserved c =
    let o = c.args.outcome in
    told_more (λ is. all_end o (listed is)) (λ is js. ap (all_end o) (listed_++ is js) ∙ map-append _ (listed is) (listed js)) c.args.items.now c.loop-item.item-index _ c.item-item.is c.loop-item-test.true
    (seated c.args.seats.now) (seated c.loop-item.seats) _ c.loop-item.invariant c.tell_item.ensures

pub returns : goal.returns
returns c =
    let xs = c.args.items.now in
    c.loop-item.invariant
    ∙ ap (λ is. tell_all (all_end c.args.outcome (listed is)) (seated c.args.seats.now)) (take_all c.loop-item.item-index xs (omega (arith, c.loop-item-test.false)))

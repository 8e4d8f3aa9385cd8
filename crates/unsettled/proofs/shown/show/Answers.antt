use Rattle.std.proofs.Common.{set, ap, ◌∙◌, arith}
use Rattle.unsettled.specs.Shown.{shown_slot}
use Rattle.unsettled.proofs.Showing.{written_more}
use Rattle.unsettled.proofs.shown.show.Goals as goal

pub loop-i-preserved : goal.loop-i-preserved
loop-i-preserved g c =
    let f = shown_slot g.M.AsDeliveryState.state in
    let x = c.index-slots-i.result in
    let e = ap (λ s. record { tag = x.tag; entry = s }) c.as_delivery_state.ensures ∙ ap f c.index-slots-i.is in
    ap (λ o. set o c.loop-i.i (record { tag = x.tag; entry = c.as_delivery_state.result })) c.loop-i.invariant
    ∙ written_more f c.args.slots.now c.args.out.now c.loop-i.i x _ c.loop-i-test.true (omega (arith, c.requires, c.loop-i-test.true)) e

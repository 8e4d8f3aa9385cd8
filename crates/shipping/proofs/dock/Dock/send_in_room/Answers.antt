use Rattle.std.proofs.Common.{◌≡◌, Bool, true, false, List, ap, ◌∙◌, rules, tests}
use Rattle.std.proofs.lemmas.Bool.{false≢true}
use Rattle.amqp.specs.declared.error.SendError.TheVariants.{SinkFull}
use Rattle.sink.specs.Frames.{Frame, Model}
use Rattle.shipping.specs.Archives.{took_all}
use Rattle.shipping.proofs.Room.{fed, roomier_none, room_made, was_running}
use Rattle.shipping.proofs.Sends.{gone_later, stayed, unsent_later}
use Rattle.shipping.proofs.dock.Dock.send_in_room.Goals as goal

pub loop-settlement-smaller : goal.loop-settlement-smaller
loop-settlement-smaller g c =
    let t = c.if-eq.ensures in
    let full : c.in-Err.e ≡ SinkFull = search (rules, tests) in
    fed _ _ _ _ _ _ _ _ full c.in-Err.ensures.sends c.in_ok-make_room-in-Err.ensures.sink

pub loop-settlement-preserved : goal.loop-settlement-preserved
loop-settlement-preserved g c =
    let after = c.in_ok-make_room-in-Err.ensures in
    let kept = stayed _ _ _ _ _ _ c.in-Err.ensures.sends in
    let before = c.loop-settlement.invariant in
    let t = c.if-eq.ensures in
    let full : c.in-Err.e ≡ SinkFull = search (rules, tests) in
    let running = ap (λ (m : Model). m.stopped) kept.1 ∙ was_running _ _ _ _ _ _ _ full c.in-Err.ensures.sends in
    let room = room_made c.try_send.new.self.sink _ running after.sink in (
      after.link ∙ kept.0 ∙ c.loop-settlement.invariant.0,
      after.credit ∙ c.in-Err.ensures.credit ∙ c.loop-settlement.invariant.1,
      λ e. roomier_none c.try_send.new.self.sink _ after.sink,
      room.widest ∙ ap (λ (m : Model). m.widest) kept.1 ∙ before.3,
      room.stopped ∙ ap (λ (m : Model). m.stopped) kept.1 ∙ before.4,
      λ e. after.archive ∙ ap (λ (fs : List Frame). took_all fs c.try_send.new.self.archive) (ap (λ (m : Model). m.waiting) kept.1 ∙ before.2 e) ∙ c.in-Err.ensures.archive ∙ before.5 e,
    )

pub returns-in-Ok-clause-sends : goal.returns-in-Ok-clause-sends
returns-in-Ok-clause-sends g c =
    gone_later _ c.loop-settlement.self.link _ _ _ c.loop-settlement.self.sink _ _ _ c.loop-settlement.invariant.0 c.loop-settlement.invariant.2 c.in-Ok.ensures.sends

pub returns-in-Err-2-clause-sends : goal.returns-in-Err-2-clause-sends
returns-in-Err-2-clause-sends g c =
    let before = c.loop-settlement.invariant in
    let other : c.in-Err.e ≡ SinkFull → ⊥ = λ e. (let t : ◌≡◌ {A = Bool} false true = rw e at c.if-eq.ensures in false≢true t) in
    rw c.into.ensures (unsent_later _ c.loop-settlement.self.link _ _ _ c.loop-settlement.self.sink _ _ _ before.0 (record { widest = before.3; stopped = before.4; waiting = before.2 }) other c.in-Err.ensures.sends)

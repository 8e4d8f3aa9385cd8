use Rattle.std.proofs.Common.{sym, ◌∙◌}
use Rattle.link.specs.Rows.{first}
use Rattle.link.specs.Sending.{carrier, share_of}
use Rattle.amqp.specs.Headers.{measured}
use Rattle.link.proofs.Rows.{err_by, gated_err, gated_ok}
use Rattle.sender.specs.Tasks.{own_rows}
use Rattle.sender.proofs.Carrying.{refused, stopped, done}
use Rattle.sender.proofs.sender_link.SenderLink.carry.Goals as goal

pub returns-in_err-share : goal.returns-in_err-share
returns-in_err-share g c =
    let v = c.args.self.now in
    let k = carrier (g.E.Encoder.bytes c.args.encoder.now) c.args.pool.now (g.S.Sink.model c.args.sink.now) in
    let t = c.args.task.now in
    let f = c.from_residual.ensures in
    let r = err_by c.from_residual.result _ f.0 f.1 in
    let h = gated_err (first (own_rows v k.bytes t)) (share_of v.settings.max_frame_size (measured k.bytes t.transfer)) _ (sym c.in_err-share.was ∙ c.may_carry.ensures) in
    rw r (refused v k t _ h)

pub returns-in_err-put : goal.returns-in_err-put
returns-in_err-put g c =
    let v = c.args.self.now in
    let k = carrier (g.E.Encoder.bytes c.args.encoder.now) c.args.pool.now (g.S.Sink.model c.args.sink.now) in
    let t = c.args.task.now in
    let f = c.from_residual-in_err-put.ensures in
    let r = err_by c.from_residual-in_err-put.result _ f.0 f.1 in
    let h = gated_ok (first (own_rows v k.bytes t)) (share_of v.settings.max_frame_size (measured k.bytes t.transfer)) _ (sym c.in_ok-share.was ∙ c.may_carry.ensures) in
    rw r (stopped v k t _ h.0 (rw h.1 at c.put.ensures.sink) _ (sym c.in_err-put.was ∙ rw h.1 at c.put.ensures.answer))

pub returns : goal.returns
returns g c =
    let v = c.args.self.now in
    let k = carrier (g.E.Encoder.bytes c.args.encoder.now) c.args.pool.now (g.S.Sink.model c.args.sink.now) in
    let t = c.args.task.now in
    let h = gated_ok (first (own_rows v k.bytes t)) (share_of v.settings.max_frame_size (measured k.bytes t.transfer)) _ (sym c.in_ok-share.was ∙ c.may_carry.ensures) in
    done v k t _ h.0 (rw h.1 at c.put.ensures.sink) _ (sym c.in_ok-put.was ∙ rw h.1 at c.put.ensures.answer) c.finish.ensures
    (g.met.E.Encoder.widest c.args.encoder.now t.transfer) c.requires

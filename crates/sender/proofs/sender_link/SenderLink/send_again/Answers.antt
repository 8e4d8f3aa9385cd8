use Rattle.std.proofs.Common.{drop, sym, ◌∙◌, subst, rules}
use Rattle.link.specs.Resending.{again}
use Rattle.link.specs.Sending.{carrier, goes_settled}
use Rattle.link.proofs.Rows.{err_by}
use Rattle.sender.specs.Resends.{AgainDone}
use Rattle.sender.proofs.Resending.{settled_is, refused, done}
use Rattle.sender.proofs.Working.{first_is}
use Rattle.sender.proofs.sender_link.SenderLink.send_again.Goals as goal

pub returns-in_err-carry : goal.returns-in_err-carry
returns-in_err-carry g c =
    let v = c.args.self.now in
    let k = carrier (g.E.Encoder.bytes c.args.encoder.now) c.args.pool.now (g.S.Sink.model c.args.sink.now) in
    let e = c.args.slot.now in
    let f = c.from_residual.ensures in
    let r = err_by c.from_residual.result _ f.0 f.1 in
    let h = rw c.again-task.ensures at (rw c.in_err-carry.was at c.carry.ensures) in
    subst (λ es. AgainDone es v k c.from_residual.result c.carry.new.self (g.S.Sink.model c.carry.new.sink)) (sym (first_is v.held.resend e c.requires))
    (rw r (refused v k e (drop 1 v.held.resend) (sym c.is_outside.ensures ∙ c.if-is_outside.false) (search rules) _ _ _ h))

pub returns : goal.returns
returns g c =
    let v = c.args.self.now in
    let k = carrier (g.E.Encoder.bytes c.args.encoder.now) c.args.pool.now (g.S.Sink.model c.args.sink.now) in
    let e = c.args.slot.now in
    let l = first_is v.held.resend e c.requires in
    let h = rw c.again-task.ensures at (rw c.in_ok-carry.was at c.carry.ensures) in
    let s = settled_is (goes_settled v (again e)) c.is_none.result v e (rw c.again-task.ensures at c.is_none.ensures) in
    subst (λ es. AgainDone es v k _ c.take_off.new.self (g.S.Sink.model c.carry.new.sink)) (sym l)
    (done v k e (drop 1 v.held.resend) (sym c.is_outside.ensures ∙ c.if-is_outside.false) (search rules) _ _ _ c.is_none.result s l h c.take_off.ensures)

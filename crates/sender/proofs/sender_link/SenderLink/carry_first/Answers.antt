use Rattle.link.specs.Sending.{carrier}
use Rattle.link.proofs.Rows.{err_by}
use Rattle.sender.proofs.Working.{refused_too, finished}
use Rattle.sender.proofs.sender_link.SenderLink.carry_first.Goals as goal

pub returns-in_err-carry : goal.returns-in_err-carry
returns-in_err-carry g c =
    let f = c.from_residual.ensures in
    let r = err_by c.from_residual.result _ f.0 f.1 in
    rw r (refused_too _ _ _ _ _ _ _ _ _ _ _ _ (rw c.in_err-carry.was at c.carry.ensures))

pub returns : goal.returns
returns g c =
    let k = carrier (g.E.Encoder.bytes c.args.encoder.now) c.args.pool.now (g.S.Sink.model c.args.sink.now) in
    finished c.args.self.now k c.args.task.now _ _ _ (rw c.in_ok-carry.was at c.carry.ensures) c.next_item.ensures

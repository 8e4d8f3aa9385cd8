use Rattle.std.proofs.Common.{Some, sym, ap, ◌∙◌, subst}
use Rattle.link.specs.declared.resumption.ResumingDelivery.TheVariants.{Resume}
use Rattle.link.specs.Sending.{carrier}
use Rattle.link.specs.Working.{start_in}
use Rattle.link.proofs.Working.{past_is}
use Rattle.sender.specs.Works.{ItemDone}
use Rattle.sender.proofs.Working.{paid, first_is}
use Rattle.sender.proofs.sender_link.SenderLink.work_on.Goals as goal

-- what is left of the message is the message from there on
pub returns-in-Resume : goal.returns-in-Resume
returns-in-Resume g c =
    let v = c.args.self.now in
    let k = carrier (g.E.Encoder.bytes c.args.encoder.now) c.args.pool.now (g.S.Sink.model c.args.sink.now) in
    let e = c.in-Resume.slot in
    let r = first_is v.held.resume (Resume e c.in-Resume.peer) (c.requires ∙ ap Some c.in-Resume.is) in
    let m = past_is c.args.pool.now (start_in c.args.pool.now e.entry.place c.in-Resume.peer) e.entry.place in
    subst (λ is. ItemDone is v k c.resume_first.result c.resume_first.new.self (g.S.Sink.model c.resume_first.new.sink)) (sym r)
    (paid _ _ _ _ _ _ _ _ _ _ _ m c.resume_first.ensures)

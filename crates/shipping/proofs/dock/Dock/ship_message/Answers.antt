use Rattle.std.proofs.Common.{subst}
use Rattle.sender.specs.declared.ticket.Settlement.{Settlement}
use Rattle.shipping.specs.Docks.{Gone}
use Rattle.shipping.proofs.Shipments.{shipped}
use Rattle.shipping.proofs.dock.Dock.ship_message.Goals as goal

pub returns-in-Unsettled-clause-ships : goal.returns-in-Unsettled-clause-ships
returns-in-Unsettled-clause-ships g c rest =
    let sent = c.in_ok-ticket.ensures.sends in
    let after = c.send.new.self in
    shipped c.args.self.now.link sent.u c.args.self.now.credit c.args.self.now.archive (g.E.Encoder.bytes c.args.encoder.now) c.args.message.now c.args.self.now.sink after.sink c.settle.new.self.sink c.in-Unsettled.ticket after.archive c.settle.result after.link c.settle.new.self.link rest sent.alike (subst (λ (x : Settlement). Gone sent.u (g.E.Encoder.bytes c.args.encoder.now) c.args.message.now c.args.self.now.sink x after.link after.sink) c.in-Unsettled.is sent.sending) c.settle.ensures.settles

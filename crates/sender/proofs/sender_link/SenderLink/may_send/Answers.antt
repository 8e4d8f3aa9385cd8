use Rattle.std.proofs.Common.{rules, sym, ◌∙◌}
use Rattle.link.proofs.Rows.{err_by}
use Rattle.sender.proofs.Sending.{blind_carrier, by_entry}
use Rattle.sender.proofs.sender_link.SenderLink.may_send.Goals as goal

pub returns-in_err-may_add : goal.returns-in_err-may_add
returns-in_err-may_add g c =
    let f = c.from_residual-in_err-may_add.ensures in
    err_by c.from_residual-in_err-may_add.result _ f.0 f.1
    ∙ by_entry c.args.self.now (blind_carrier (g.E.Encoder.bytes c.args.encoder.now) c.args.pool.now) c.args.message.now _
    (search rules) (search rules) (search rules) (search rules) (search rules) (search rules) (search rules) (sym c.in_err-may_add.was ∙ c.may_add.ensures)

use Rattle.std.proofs.Common.{codes}
use Rattle.amqp.specs.Texts.{flag_text}
use Rattle.scenario_text.specs.Reading.{Any}
use Rattle.scenario_text.specs.Values.{modified_text}
use Rattle.scenario_text.proofs.Parts.{first_unread, flag_lacks}
use Rattle.scenario_text.proofs.Reading.{none_read}
use Rattle.scenario_text.proofs.state.read_modified.Goals as goal

pub returns-in_err-read_flag : goal.returns-in_err-read_flag
returns-in_err-read_flag c =
    let r = first_unread flag_text Any flag_text Any (codes "modified(") (λ b any. flag_lacks b) c.args.text.now c.in_ok-inside.field-0.now c.in_ok-failed.failed.now c.in_ok-failed.undeliverable.now c.in_ok-inside.ensures c.in_ok-failed.ensures.0 c.in_ok-failed.ensures.1 c.in_err-read_flag.ensures in
    rw c.from_residual-in_err-read_flag.ensures (none_read modified_text Any c.args.text.now (λ x any e. let f = r.back x (tt, tt) e in cc))

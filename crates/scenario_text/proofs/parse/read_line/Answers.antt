use Rattle.std.proofs.Common.{◌∙◌, sym}
use Rattle.std.proofs.lemmas.Result.{err_from_is_err_and}
use Rattle.scenario_text.specs.Lists.{listed}
use Rattle.scenario_text.specs.Words.{words, left}
use Rattle.scenario_text.proofs.Lines.{no_command, too_many}
use Rattle.scenario_text.proofs.parse.read_line.Goals as goal

pub returns-in_err-command : goal.returns-in_err-command
returns-in_err-command c =
    let p = err_from_is_err_and c.from_residual.result c.from_residual.ensures.1 in
    no_command (words c.args.line.now) c.in-Some.name.now (left c.next.new.self) (listed c.command.new.list) _ _ _ p.1 p.2 (sym c.new-words.ensures ∙ c.in-Some.ensures) c.in_err-command.ensures.refused

pub returns-in_err-end : goal.returns-in_err-end
returns-in_err-end c =
    let taken = c.in_ok-command.ensures.taken in
    too_many (words c.args.line.now) c.in-Some.name.now (left c.next.new.self) (left c.command.new.words) (listed c.command.new.list) _ c.in_ok-command.command c.from_residual-in_err-end.ensures.0 (sym c.new-words.ensures ∙ c.in-Some.ensures) taken.0 taken.2 c.in_err-end.ensures

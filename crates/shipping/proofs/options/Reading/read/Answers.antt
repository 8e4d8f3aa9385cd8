use Rattle.std.proofs.Common.{sym, ap, ◌∙◌}
use Rattle.shipping.specs.Words.{SoFar}
use Rattle.shipping.proofs.Wording.{at_number, at_file}
use Rattle.shipping.proofs.options.Reading.read.Goals as goal

pub returns-in-Some : goal.returns-in-Some
returns-in-Some c =
    at_number c.args.self.now.awaits c.in-Some.key c.args.word.now c.args.self.now c.read_number.new.self c.read_number.result (ap (λ (s : SoFar). s.awaits) (sym c.self.view_is) ∙ c.in-Some.is) c.read_number.ensures

pub returns-in-Err : goal.returns-in-Err
returns-in-Err c =
    at_file c.args.self.now.awaits c.args.word.now c.args.self.now c.read_file.new.self c.read_file.result (λ k e. c.in_default.not-Some k (ap (λ (s : SoFar). s.awaits) c.self.view_is ∙ e)) (c.in-Err.ensures).value c.read_file.ensures

use Rattle.std.proofs.Common.{Some, None, ap, sym, ◌∙◌}
use Rattle.std.specs.Option.{option_copied}
use Rattle.scenario_play.specs.Inputs.{says_nothing}
use Rattle.scenario_play.proofs.Blanks.{passed_over}
use Rattle.scenario_play.proofs.lines.Lines.is_passed_over.Goals as goal

pub returns-in-Some : goal.returns-in-Some
returns-in-Some g c =
    passed_over c.deref.result.now _ (Some c.in-Some.first.now) c.trim_ascii_start.ensures.value (ap option_copied (sym c.in-Some.is) ∙ c.first.ensures.value) ∙ ap says_nothing c.deref.ensures.value

pub returns-in-None : goal.returns-in-None
returns-in-None g c =
    passed_over c.deref.result.now _ None c.trim_ascii_start.ensures.value (ap option_copied (sym c.in-None.is) ∙ c.first.ensures.value) ∙ ap says_nothing c.deref.ensures.value

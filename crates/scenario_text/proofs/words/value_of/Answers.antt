use Rattle.std.proofs.Common.{rules}
use Rattle.scenario_text.specs.Words.{keyed}
use Rattle.std.proofs.Common.{◌++◌, ◌∙◌, sym, ap, lit<}
use Rattle.std.proofs.lemmas.Str.Pattern.{strip_prefix_char}
use Rattle.scenario_text.proofs.Closings.{value_after}
use Rattle.scenario_text.proofs.words.value_of.Goals as goal

pub returns : goal.returns
returns c =
    let h = c.in_ok-strip_prefix.ensures.cases in
    value_after c.args.word.now c.args.key.now c.in_ok-strip_prefix.field-0.now c.strip_prefix-2.result (h.1.1 ∙ ap (λ s. c.args.key.now ++ s) (sym h.2)) (strip_prefix_char 61 _ _ c.strip_prefix-2.ensures.cases (lit< tt))

pub returns-in_err-strip_prefix : goal.returns-in_err-strip_prefix
unfolding keyed
returns-in_err-strip_prefix c = search rules

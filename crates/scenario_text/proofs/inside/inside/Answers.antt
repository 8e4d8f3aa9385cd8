use Rattle.std.proofs.Common.{◌++◌, ◌∙◌, sym, ap, lit<}
use Rattle.std.proofs.lemmas.Str.Pattern.{strip_suffix_char}
use Rattle.scenario_text.proofs.Closings.{inside_of}
use Rattle.scenario_text.proofs.inside.inside.Goals as goal

pub returns : goal.returns
returns c =
    let h = c.in_ok-strip_prefix.ensures.cases in
    inside_of c.args.text.now c.args.head.now c.in_ok-strip_prefix.field-0.now c.strip_suffix.result (h.1.1 ∙ ap (λ s. c.args.head.now ++ s) (sym h.2)) (strip_suffix_char 41 _ _ c.strip_suffix.ensures.cases (lit< tt))

use Rattle.std.proofs.Common.{◌∷◌, ◌∙◌, ap, arith, codes, decimal}
use Rattle.scenario_text.specs.Commands.{show_words, IsShow}
use Rattle.scenario_text.specs.Words.{keyed}
use Rattle.scenario_text.specs.Shown.{truth_word}
use Rattle.scenario_text.proofs.Takings.{refuses, behind}
use Rattle.scenario_text.proofs.values.show_of.Goals as goal

pub returns-in_err-truth : goal.returns-in_err-truth
unfolding show_words
returns-in_err-truth c =
    refuses show_words IsShow _ _ _ c.from_residual.ensures.0 (λ x rest fits e. c.in_err-truth.ensures.refused x.0 _ tt e)

pub returns-in_err-size : goal.returns-in_err-size
unfolding show_words
returns-in_err-size c =
    refuses show_words IsShow _ _ _ c.from_residual-in_err-size.ensures.0 (λ x rest fits e. c.in_err-size.ensures.refused x.1 _ (omega (arith, fits.0)) (behind c.in_ok-truth.ensures.taken.1 e))

pub returns-in_err-size-2 : goal.returns-in_err-size-2
unfolding show_words
returns-in_err-size-2 c =
    refuses show_words IsShow _ _ _ c.from_residual-in_err-size-2.ensures.0 (λ x rest fits e. c.in_err-size-2.ensures.refused x.2 rest fits.1 (behind c.in_ok-size.ensures.taken.1 (behind c.in_ok-truth.ensures.taken.1 e)))

pub returns : goal.returns
unfolding show_words
returns c =
    let b = c.in_ok-size.ensures.taken in
    let d = c.in_ok-size-2.ensures.taken in
    record {
      taken = ((omega (arith, b.0), d.0), c.in_ok-truth.ensures.taken.1 ∙ ap (λ w. keyed (codes "reattaching") (truth_word c.in_ok-truth.field-0) ∷ w) (b.1 ∙ ap (λ w. keyed (codes "denominator") (decimal c.in_ok-size.field-0) ∷ w) d.1));
      refused = tt;
    }

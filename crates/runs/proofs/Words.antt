-- The outcomes that calls tell of a number.
use Rattle.std.proofs.Common.{◌≡◌, ℕ, ◌+◌, cond, eqb, List, [], ◌∷◌, ◌++◌, map, refl, ap₂, ◌∙◌, arith}
use Rattle.std.specs.List.{flat_map}
use Rattle.link.specs.declared.attach.Attach.{Attach}
use Rattle.link.specs.declared.delivery.Outcome.{Outcome}
use Rattle.link.specs.declared.resumption.Resumption.{Resumption}
use Rattle.link.specs.declared.resumption.Resumption.TheVariants as to
use Rattle.link.specs.Detaching.{all_end}
use Rattle.link.specs.Resuming.{judge, end_for, end_of}
use Rattle.link.specs.Turns.{End}
use Rattle.link.specs.Views.{Entry}
use Rattle.runs.specs.Lives.{Life, unborn, standing, over, judged, of}
use Rattle.runs.specs.Runs.{one}
use Rattle.runs.proofs.Items.{flat_first, same_either}

-- the outcome that a life ended with
abbrev pub last_word : Life → List Outcome
last_word unborn = []
last_word (standing w e) = []
last_word (over o) = o ∷ []

-- how often a number is in a list, and the outcomes with which it ends
abbrev pub among : ℕ → List ℕ → ℕ
among n [] = 0
among n (k ∷ ks) = one (eqb n k) + among n ks

abbrev pub outcomes : ℕ → List End → List Outcome
outcomes n [] = []
outcomes n (e ∷ es) = cond (eqb n e.number) (e.outcome ∷ outcomes n es) (outcomes n es)

outcomes_++ : (n : ℕ) (es fs : List End) → outcomes n (es ++ fs) ≡ outcomes n es ++ outcomes n fs
outcomes_++ n [] fs = refl
outcomes_++ n (e ∷ es) fs = let ih = outcomes_++ n es fs in grind arith

-- ---- attach

abbrev pub word_of : Attach → Entry → List Outcome
word_of a e = last_word (judged (judge a e) e)

end_word : (n : ℕ) (r : Resumption) (e : Entry) → outcomes n (end_for r e) ≡ cond (eqb n e.entry.ticket) (last_word (judged r e)) []
end_word n to.Resend e = same_either (eqb n e.entry.ticket) []
end_word n (to.Resume p) e = same_either (eqb n e.entry.ticket) []
end_word n to.Abort e = same_either (eqb n e.entry.ticket) []
end_word n to.RestateOutcome e = same_either (eqb n e.entry.ticket) []
end_word n (to.End s) e = refl
end_word n (to.Settle s) e = refl

pub words_attach : (n : ℕ) (a : Attach) (es : List Entry) → outcomes n (flat_map (end_of a) es) ≡ flat_map (word_of a) (of n es)
words_attach n a [] = refl
words_attach n a (e ∷ es) =
    outcomes_++ n (end_of a e) (flat_map (end_of a) es)
    ∙ ap₂ (λ l m. l ++ m) (end_word n (judge a e) e) (words_attach n a es)
    ∙ flat_first (word_of a) (eqb n e.entry.ticket) e (of n es)

-- ---- a detach that closes

pub words_close : (n : ℕ) (o : Outcome) (es : List Entry) → outcomes n (all_end o es) ≡ map (λ _. o) (of n es)
words_close n o [] = refl
words_close n o (e ∷ es) = let ih = words_close n o es in grind arith

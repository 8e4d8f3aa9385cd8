-- What stands behind a head.
use Rattle.std.proofs.Common.{◌≡◌, ℕ, List, [], ◌∷◌, ◌++◌, Option, None, Some, MatchOption, Bor, sym, ◌∙◌}
use Rattle.std.proofs.lemmas.List.{append_cancel_left}
use Rattle.scenario_text.specs.Reading.{closed}
use Rattle.scenario_text.specs.Words.{keyed}

-- without the head and the bracket
pub inside_of : (text head rest : List ℕ) (r : Option (Bor (List ℕ))) → text ≡ head ++ rest → MatchOption r ((front : List ℕ) → rest ≡ front ++ (41 ∷ []) → ⊥) (λ x. rest ≡ x.now ++ (41 ∷ [])) → MatchOption r ((x : List ℕ) → text ≡ closed head x → ⊥) (λ x. text ≡ closed head x.now)
inside_of text head rest None e h = λ x f. h x (append_cancel_left head rest (x ++ (41 ∷ [])) (sym e ∙ f))
inside_of text head rest (Some x) e h = cc

-- without the key and the equals sign
pub value_after : (word key rest : List ℕ) (r : Option (Bor (List ℕ))) → word ≡ key ++ rest → MatchOption r ((v : List ℕ) → rest ≡ 61 ∷ v → ⊥) (λ v. rest ≡ 61 ∷ v.now) → MatchOption r ((v : List ℕ) → word ≡ keyed key v → ⊥) (λ v. word ≡ keyed key v.now)
unfolding keyed
value_after word key rest None e h = λ v f. h v (append_cancel_left key rest (61 ∷ v) (sym e ∙ f))
value_after word key rest (Some v) e h = cc

-- The lines of bytes, read one after the other.
use Rattle.std.proofs.Common.{◌≡◌, ℕ, Bool, true, false, not, cond, List, [], ◌∷◌, filter, length, Option, Some, None, IfSome, eqb, refl, sym, ap, subst, ◌∙◌}
use Rattle.std.proofs.BufReadLemmas.{take_through-nil}
use Rattle.std.specs.Io.BufRead.{take_through, drop_through, DropsThrough}
use Rattle.scenario_play.specs.Inputs.{begun, lines_of, says_nothing, tells, told_lines, SameTold, Advances}

joined : (x : ℕ) (xs : List ℕ) → begun x (lines_of xs) ≡ (x ∷ take_through 10 xs) ∷ lines_of (drop_through 10 xs)
joined x [] = refl
joined x (y ∷ ys) = at (eqb y 10) (joined y ys)
  where
    at : (b : Bool) → begun y (lines_of ys) ≡ (y ∷ take_through 10 ys) ∷ lines_of (drop_through 10 ys)
        → begun x (cond b ((y ∷ []) ∷ lines_of ys) (begun y (lines_of ys))) ≡ (x ∷ cond b (y ∷ []) (y ∷ take_through 10 ys)) ∷ lines_of (cond b ys (drop_through 10 ys))
    at true ih = refl
    at false ih = ap (begun x) ih

next_line : (x : ℕ) (xs : List ℕ) → lines_of (x ∷ xs) ≡ take_through 10 (x ∷ xs) ∷ lines_of (drop_through 10 (x ∷ xs))
next_line x xs = at (eqb x 10)
  where
    at : (b : Bool) → cond b ((x ∷ []) ∷ lines_of xs) (begun x (lines_of xs)) ≡ cond b (x ∷ []) (x ∷ take_through 10 xs) ∷ lines_of (cond b xs (drop_through 10 xs))
    at true = refl
    at false = joined x xs

-- a line in front is told, or passed over
told_front : (line : List ℕ) (lines : List (List ℕ)) (b : Bool) → says_nothing line ≡ b → filter tells (line ∷ lines) ≡ cond (not b) (line ∷ filter tells lines) (filter tells lines)
told_front line lines b is = ap (λ x. cond (not x) (line ∷ filter tells lines) (filter tells lines)) is

passed : (xs : List ℕ) → says_nothing (take_through 10 xs) ≡ true → told_lines xs ≡ told_lines (drop_through 10 xs)
passed [] nothing = refl
passed (x ∷ xs) nothing = ap (filter tells) (next_line x xs) ∙ told_front (take_through 10 (x ∷ xs)) (lines_of (drop_through 10 (x ∷ xs))) true nothing

found : (xs : List ℕ) → says_nothing (take_through 10 xs) ≡ false → told_lines xs ≡ take_through 10 xs ∷ told_lines (drop_through 10 xs)
found [] told = cc
found (x ∷ xs) told = ap (filter tells) (next_line x xs) ∙ told_front (take_through 10 (x ∷ xs)) (lines_of (drop_through 10 (x ∷ xs))) false told

-- ---- where a reader's bytes may be unknown

pub same_at_first : (a : Option (List ℕ)) → SameTold a a
same_at_first None = tt
same_at_first (Some xs) = refl

-- a line that says nothing was read
pub same_after : (first old new : Option (List ℕ)) (line : List ℕ) → SameTold first old → IfSome old (λ xs. line ≡ take_through 10 xs) → DropsThrough old new 10 → says_nothing line ≡ true → SameTold first new
same_after None old new line same is drops nothing = tt
same_after (Some xs) None new line same is drops nothing = absurd same
same_after (Some xs) (Some ys) new line same is drops nothing = subst (SameTold (Some xs)) (sym drops) (same ∙ passed ys (sym (ap says_nothing is) ∙ nothing))

-- one that says something
pub advanced : (first old new : Option (List ℕ)) (line : List ℕ) → SameTold first old → IfSome old (λ xs. line ≡ take_through 10 xs) → DropsThrough old new 10 → says_nothing line ≡ false → Advances true line first new
advanced None old new line same is drops told = tt
advanced (Some xs) None new line same is drops told = absurd same
advanced (Some xs) (Some ys) new line same is drops told =
    subst (Advances true line (Some xs)) (sym drops) (same ∙ found ys (sym (ap says_nothing is) ∙ told) ∙ ap (λ l. l ∷ told_lines (drop_through 10 ys)) (sym is))

-- the end
pub ended : (first old new : Option (List ℕ)) (line : List ℕ) → SameTold first old → IfSome old (λ xs. line ≡ take_through 10 xs) → line ≡ [] → Advances false line first new
ended None old new line same is none = tt
ended (Some xs) None new line same is none = absurd same
ended (Some xs) (Some ys) new line same is none = same ∙ ap told_lines (take_through-nil 10 ys (ap length (sym is ∙ none)))

-- Rows of refusals, and what a clear list of them says.
use Rattle.std.proofs.Common.{◌≡◌, ℕ, Bool, true, false, List, [], ◌∷◌, ◌++◌, is_err, IsErrAnd, Some, None, Ok, Err, Option, Result, refl, ap}
use Rattle.std.specs.List.{AllByRecursion}
use Rattle.sink.specs.Frames.{Frame, Model, After}
use Rattle.link.specs.Rows.{row, first, gated, Accepted}

pub first_some : {E : Type 0} (xs ys : List (Option E)) (e : E) → first xs ≡ Some e → first (xs ++ ys) ≡ Some e
first_some [] ys e h = absurd (cc)
first_some (None ∷ xs) ys e h = first_some xs ys e h
first_some (Some x ∷ xs) ys e h = h

pub first_none : {E : Type 0} (xs ys : List (Option E)) → first xs ≡ None → first (xs ++ ys) ≡ first ys
first_none [] ys h = refl
first_none (None ∷ xs) ys h = first_none xs ys h
first_none (Some x ∷ xs) ys h = absurd (cc)

pub first_alone : {E : Type 0} (o : Option E) → first (o ∷ []) ≡ o
first_alone None = refl
first_alone (Some x) = refl

-- where none refuses, each row's test failed
pub all_none : {E : Type 0} (xs : List (Option E)) → first xs ≡ None → AllByRecursion (λ o. o ≡ None) xs
all_none [] h = tt
all_none (None ∷ xs) h = (refl, all_none xs h)
all_none (Some x ∷ xs) h = absurd (cc)

pub row_off : {E : Type 0} (b : Bool) (e : E) → row b e ≡ None → b ≡ false
row_off true e h = absurd (cc)
row_off false e h = refl

pub gated_err : {X E : Type 0} (o : Option E) (x : X) (e : E) → Err e ≡ gated o x → o ≡ Some e
gated_err None x e h = absurd (cc)
gated_err (Some y) x e h = cc

pub gated_ok : {X E : Type 0} (o : Option E) (x y : X) → Ok y ≡ gated o x → (o ≡ None) × (y ≡ x)
gated_ok None x y h = (refl, cc)
gated_ok (Some z) x y h = absurd (cc)

pub after_same : {E : Type 0} (o : Option E) (e : E) (s : Model) (fs : List Frame) (n : ℕ) → o ≡ Some e → After o s s fs n
after_same None e s fs n h = absurd (cc)
after_same (Some y) e s fs n h = refl

pub accepted_not : {E : Type 0} (o : Option E) (e : E) (P : Type 0) → o ≡ Some e → Accepted o P
accepted_not None e P h = absurd (cc)
accepted_not (Some y) e P h = tt

pub accepted : {E : Type 0} (o : Option E) {P : Type 0} → P → Accepted o P
accepted None h = h
accepted (Some y) h = tt

-- what `?` hands on
pub err_by : {X E : Type 0} (r : Result X E) (e : E) → is_err r ≡ true → IsErrAnd r (λ x. x ≡ e) → r ≡ Err e
err_by (Ok x) e h k = absurd (cc)
err_by (Err y) e h k = ap (λ x. Err x) k

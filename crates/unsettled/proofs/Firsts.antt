-- The first element that passes a test: where it stands, what it is, and what replaces it.
use Rattle.std.proofs.Common.{◌≡◌, ℕ, zero, suc, ◌+◌, ◌<◌, ◌≤◌, Bool, true, false, cond, not, ltb, List, [], ◌∷◌, length, get_or, set, Some, None, Option, sym, refl, ap, ◌∙◌, ⊎_elim, arith}
use Rattle.std.specs.List.{find, position, position_or_len}
use Rattle.std.specs.Option.{option_map}
use Rattle.std.proofs.lemmas.List.Quantifiers.{position-Some}
use Rattle.std.proofs.lemmas.List.Recursion.{found_at}
use Rattle.std.proofs.lemmas.List.Sums.{position_or_len_is, fails_before_first}
use Rattle.std.proofs.lemmas.Bool.{cond-true, cond-false, cases_Bool, ltb-false, lt-ltb, le-ltb}
use Rattle.std.proofs.lemmas.Bool.Decides.{nat_tests}
use Rattle.unsettled.specs.Lists.{replaced}

-- a place is one further on in a longer list
pub position-cons : {X : Type 0} (p : X → Bool) (x : X) (xs : List X) → position p (x ∷ xs) ≡ cond (p x) (Some 0) (option_map suc (position p xs))
position-cons p x xs = go (p x) (position_or_len p xs) (length xs)
  where
    go : (b : Bool) (k n : ℕ) → cond (ltb (cond (not b) (1 + k) 0) (suc n)) (Some (cond (not b) (1 + k) 0)) None ≡ cond b (Some 0) (option_map suc (cond (ltb k n) (Some k) None))
    go true k n = grind (arith, nat_tests)
    go false k n = grind (arith, nat_tests)

pub place_is : {X : Type 0} (p : X → Bool) (xs : List X) (i : ℕ) (d : X) → i < length xs → ((k : ℕ) → k < i → p (get_or xs k d) ≡ false) → p (get_or xs i d) ≡ true → Some i ≡ position p xs
place_is p xs i d lt before here =
    let e = position_or_len_is p xs i d (omega arith) before (λ _. here) in
    sym (rw e (cond-true _ _ _ (lt-ltb i (length xs) lt)))

pub no_place : {X : Type 0} (p : X → Bool) (xs : List X) (d : X) → ((k : ℕ) → k < length xs → p (get_or xs k d) ≡ false) → None ≡ position p xs
no_place p xs d all =
    let e = position_or_len_is p xs (length xs) d (omega arith) all (λ h. absurd (omega arith)) in
    sym (rw e (cond-false _ _ _ (le-ltb (length xs) (length xs) (omega arith))))

pub none_passes : {X : Type 0} (p : X → Bool) (xs : List X) (k : ℕ) (d : X) → None ≡ position p xs → k < length xs → p (get_or xs k d) ≡ false
none_passes p xs k d e lt = fails_before_first p xs k d (let le = past_all (position_or_len p xs) (length xs) e in omega arith)
  where
    past_all : (n m : ℕ) → None ≡ cond (ltb n m) (Some n) None → m ≤ n
    past_all n m h = ⊎_elim (λ t. let e = h ∙ cond-true (ltb n m) (Some n) None t in absurd (cc)) (λ f. ltb-false n m f) (cases_Bool (ltb n m))

-- an element that passes, and none that stands before it does
pub record FirstAt {X : Type 0} (p : X → Bool) (xs : List X) (i : ℕ) : Type 0 where
  pub below : i < length xs
  pub found : (d : X) → find p xs ≡ Some (get_or xs i d)
  pub written : (y : X) → set xs i y ≡ replaced p y xs

-- no element passes
pub record Nowhere {X : Type 0} (p : X → Bool) (xs : List X) : Type 0 where
  pub found : find p xs ≡ None
  pub written : (y : X) → xs ≡ replaced p y xs

written_at : {X : Type 0} (p : X → Bool) (y d : X) (xs : List X) (i : ℕ) → i < length xs → p (get_or xs i d) ≡ true → ((k : ℕ) → k < i → p (get_or xs k d) ≡ false) → set xs i y ≡ replaced p y xs
written_at p y d [] i lt h f = refl
written_at p y d (x ∷ xs) zero lt h f = sym (ap (λ b. cond b (y ∷ xs) (x ∷ replaced p y xs)) h)
written_at p y d (x ∷ xs) (suc i) lt h f =
    ap (λ ys. x ∷ ys) (written_at p y d xs i (omega arith) h (λ k l. f (suc k) (omega arith)))
    ∙ sym (ap (λ b. cond b (y ∷ xs) (x ∷ replaced p y xs)) (f 0 (omega arith)))

pub first_at : {X : Type 0} (p : X → Bool) (xs : List X) (i : ℕ) → Some i ≡ position p xs → FirstAt p xs i
first_at p [] i e = absurd (cc)
first_at p (x ∷ xs) i e =
    let h = position-Some p (x ∷ xs) i x (sym e) in
    record {
      below = h.0;
      found = λ d. let k = position-Some p (x ∷ xs) i d (sym e) in found_at (find p) p Some None refl (λ _ _. refl) (x ∷ xs) i d k.0 k.2 k.1;
      written = λ y. written_at p y x (x ∷ xs) i h.0 h.1 h.2;
    }

pub nowhere : {X : Type 0} (p : X → Bool) (xs : List X) → None ≡ position p xs → Nowhere p xs
nowhere p [] e = record { found = refl; written = λ y. refl }
nowhere p (x ∷ xs) e = go (p x) (position p xs) refl refl (e ∙ position-cons p x xs) (nowhere p xs)
  where
    go : (b : Bool) (o : Option ℕ) → p x ≡ b → position p xs ≡ o → None ≡ cond b (Some 0) (option_map suc o) → (None ≡ position p xs → Nowhere p xs) → Nowhere p (x ∷ xs)
    go true o q r h f = absurd (cc)
    go false (Some i) q r h f = absurd (cc)
    go false None q r h f =
        let n = f (sym r) in
        record { found = rw q n.found; written = λ y. rw q (ap (λ ys. x ∷ ys) (n.written y)) }

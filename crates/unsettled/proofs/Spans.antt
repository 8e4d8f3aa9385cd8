-- A list that is the span of `len` items from `start` in the memory `s`, and what becomes of it.
use Rattle.std.proofs.Common.{◌≡◌, ℕ, zero, suc, ◌+◌, ◌-◌, ◌<◌, false, cond, ltb, leb, List, [], ◌∷◌, ◌++◌, length, take, drop, set, sym, refl, ap, ◌∙◌, arith}
use Rattle.std.proofs.lemmas.List.{drop-drop, drop-set-add, take_more_set, length-drop}
use Rattle.std.proofs.lemmas.Bool.{leb-false, lt-ltb, cond-true}

behind_first : {X : Type 0} (n : ℕ) (xs : List X) → take (n - 1) (drop 1 xs) ≡ drop 1 (take n xs)
behind_first zero xs = refl
behind_first (suc n) [] = let e : suc n - 1 ≡ n = omega arith in ap (λ k. take k []) e ∙ nothing n
  where
    nothing : {X : Type 0} (n : ℕ) → take {A = X} n [] ≡ []
    nothing zero = refl
    nothing (suc n) = refl
behind_first (suc n) (x ∷ xs) = let e : suc n - 1 ≡ n = omega arith in ap (λ k. take k xs) e

-- the first item is left behind
pub popped : {X : Type 0} (s : List X) (start len : ℕ) → take (len - 1) (drop (start + 1) s) ≡ drop 1 (take len (drop start s))
popped s start len = ap (take (len - 1)) (sym (drop-drop 1 start s)) ∙ behind_first len (drop start s)

-- an item is written behind the last
pub pushed : {X : Type 0} (s xs : List X) (start len r : ℕ) (y : X) → take len (drop start s) ≡ xs → start + len < length s → false ≡ leb r (length xs) → take (len + 1) (drop start (set s (start + len) y)) ≡ cond (ltb (length xs) r) (xs ++ y ∷ []) xs
pushed s xs start len r y e l f =
    ap (take (len + 1)) (drop-set-add start s len y)
    ∙ take_more_set (drop start s) len y (omega (arith, length-drop start s))
    ∙ ap (λ ys. ys ++ y ∷ []) e
    ∙ sym (cond-true _ _ _ (lt-ltb (length xs) r (leb-false r (length xs) (sym f))))

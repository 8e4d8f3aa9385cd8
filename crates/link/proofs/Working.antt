-- A message past its first bytes.
use Rattle.std.proofs.Common.{◌≡◌, ℕ, zero, suc, ◌-◌, List, [], ◌∷◌, take, drop, sym, ap, ◌∙◌, arith}
use Rattle.std.proofs.lemmas.List.{drop-drop, take_all}
use Rattle.unsettled.specs.declared.message.Place.{Place}
use Rattle.link.specs.Sending.{message}
use Rattle.link.specs.Working.{past}

drop_taken : (k n : ℕ) (xs : List ℕ) → drop k (take n xs) ≡ take (n - k) (drop k xs)
drop_taken zero n xs = let e : n ≡ n - zero = omega arith in ap (λ j. take j xs) e
drop_taken (suc k) zero xs = let e : 0 ≡ zero - suc k = omega arith in ap (λ j. take j (drop (suc k) xs)) e
drop_taken (suc k) (suc n) [] = sym (take_all (suc n - suc k) [] (omega arith))
drop_taken (suc k) (suc n) (x ∷ xs) = let e : n - k ≡ suc n - suc k = omega arith in drop_taken k n xs ∙ ap (λ j. take j (drop k xs)) e

pub past_is : (pool : List ℕ) (k : ℕ) (p : Place) → message pool (past k p) ≡ drop k (message pool p)
past_is pool k p = ap (take (p.len - k)) (sym (drop-drop k p.start pool)) ∙ sym (drop_taken k p.len (drop p.start pool))

-- Bytes that are the same from the front, and zeros from the back.
use Rattle.std.proofs.Common.{◌≡◌, ℕ, zero, suc, ◌-◌, ◌≤◌, Bool, true, false, cond, eqb, List, [], ◌∷◌, length, get_or, take, refl, arith}
use Rattle.std.specs.List.{zip, prefix_len, suffix_len}
use Rattle.std.proofs.lemmas.List.Sums.{suffix_len-take_yes, suffix_len-take_no}
use Rattle.reader.specs.Agree.{agree, past_zeros}

abbrev pub alike : ℕ × ℕ → Bool
alike p = eqb p.0 p.1

pub agree-zip : (xs ys : List ℕ) → prefix_len alike (zip xs ys) ≡ agree xs ys
agree-zip [] ys = refl
agree-zip (x ∷ xs) [] = refl
agree-zip (x ∷ xs) (y ∷ ys) = rw (agree-zip xs ys)

abbrev pub is_zero : ℕ → Bool
is_zero b = eqb b 0

-- as many zeros as stand before a place are passed
pub zeros : (src : List ℕ) (n : ℕ) → n ≤ length src → past_zeros src n ≡ n - suffix_len is_zero (take n src)
zeros src zero l = refl
zeros src (suc n) l =
    let s : suc n - 1 ≡ n = omega arith in
    go s (zeros src n (omega arith)) (eqb (get_or src n 0) 0) refl
  where
    go : suc n - 1 ≡ n → past_zeros src n ≡ n - suffix_len is_zero (take n src) → (b : Bool) → eqb (get_or src n 0) 0 ≡ b → cond b (past_zeros src n) (suc n) ≡ suc n - suffix_len is_zero (take (suc n) src)
    go s r true e =
        let f : is_zero (get_or src (suc n - 1) 0) ≡ true = rw s e in
        let h = rw s at (suffix_len-take_yes is_zero src (suc n) 0 (omega arith) l f) in
        omega arith
    go s r false e =
        let f : is_zero (get_or src (suc n - 1) 0) ≡ false = rw s e in
        let h = suffix_len-take_no is_zero src (suc n) 0 (omega arith) l f in
        omega arith

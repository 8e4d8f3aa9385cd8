-- The laws of Has.
use Rattle.std.specs.Prelude.{◌≡◌, ℕ, ◌+◌, ◌≤◌, List, [], ◌∷◌, ◌++◌, length, take, drop, refl}
use Rattle.std.proofs.Common.{arith, append_assoc}
use Rattle.std.proofs.lemmas.List.{drop_more, get_or_at, length-append}
use Rattle.reader.specs.Places.{Has}

pub within : (zs src : List ℕ) (p : ℕ) → Has src p zs → p + length zs ≤ length src
within [] src p h = omega arith
within (z ∷ zs) src p h = omega (arith, within zs src (p + 1) h.2)

pub has_split : (xs ys src : List ℕ) (at : ℕ) → Has src at (xs ++ ys) → Has src at xs × Has src (at + length xs) ys
has_split [] ys src at h = let e : at + 0 ≡ at = omega arith in (omega (arith, within ys src at h), rw e h)
has_split (x ∷ xs) ys src at (h0, h1, h2) =
    let r = has_split xs ys src (at + 1) h2 in
    let e : at + length (x ∷ xs) ≡ at + 1 + length xs = omega arith in
    ((h0, h1, r.0), rw e r.1)

pub has_take : (bs src : List ℕ) (at : ℕ) → Has src at bs → take (length bs) (drop at src) ≡ bs
has_take [] src at h = refl
has_take (b ∷ bs) src at (h0, h1, h2) =
    let i = has_take bs src (at + 1) h2 in
    rw (drop_more src at 0 h0) cc

pub has_self : (pre bs : List ℕ) (at : ℕ) → length pre ≡ at → Has (pre ++ bs) at bs
has_self pre [] at e = let z : List ℕ = [] in omega (arith, length-append pre z)
has_self pre (b ∷ bs) at e =
    let l = length-append pre (b ∷ bs) in
    let g = get_or_at pre b bs 0 at e in
    let m = length-append pre (b ∷ []) in
    let r : Has ((pre ++ b ∷ []) ++ bs) (at + 1) bs = has_self (pre ++ b ∷ []) bs (at + 1) (omega arith) in
    (omega arith, g, rw append_assoc at r)

-- How the number of sections that begin before a position goes up.
use Rattle.std.proofs.Common.{◌≡◌, ℕ, zero, suc, ◌+◌, ◌<◌, ◌≤◌, true, false, cond, List, ap, ◌∙◌, ⊎_elim, arith}
use Rattle.std.proofs.lemmas.Bool.{cases_lt, cases_order}
use Rattle.sections.specs.Sections.{begins_at, begun_before}

pub begun_one : (msg : List ℕ) (i : ℕ) → begins_at msg i ≡ true → begun_before msg (i + 1) ≡ begun_before msg i + 1
begun_one msg i h =
    let e : i + 1 ≡ suc i = omega arith in
    ap (begun_before msg) e ∙ ap (λ b. begun_before msg i + cond b 1 0) h

pub begun_none : (msg : List ℕ) (i : ℕ) → begins_at msg i ≡ false → begun_before msg (i + 1) ≡ begun_before msg i
begun_none msg i h =
    let e : i + 1 ≡ suc i = omega arith in
    let z : begun_before msg i + 0 ≡ begun_before msg i = omega arith in
    ap (begun_before msg) e ∙ ap (λ b. begun_before msg i + cond b 1 0) h ∙ z

-- it never goes down
pub begun_grows : (msg : List ℕ) (i j : ℕ) → i ≤ j → begun_before msg i ≤ begun_before msg j
begun_grows msg i zero le = let e : i ≡ zero = omega arith in omega (arith, ap (begun_before msg) e)
begun_grows msg i (suc j) le =
    ⊎_elim (λ (l : i < suc j). omega (arith, begun_grows msg i j (omega arith)))
    (λ (l : suc j ≤ i). let e : i ≡ suc j = omega arith in omega (arith, ap (begun_before msg) e))
    (cases_lt i (suc j))

-- and stays where no section begins
pub begun_stays : (msg : List ℕ) (s i : ℕ) → s ≤ i → ((k : ℕ) → s < k → k ≤ i → begins_at msg k ≡ false) → begun_before msg (i + 1) ≡ begun_before msg (s + 1)
begun_stays msg s zero le h = let e : zero ≡ s = omega arith in ap (λ n. begun_before msg (n + 1)) e
begun_stays msg s (suc i) le h =
    ⊎_elim
    (λ (l : s < suc i).
    let e : suc i ≡ i + 1 = omega arith in
    begun_none msg (suc i) (h (suc i) l (omega arith)) ∙ ap (begun_before msg) e ∙ begun_stays msg s i (omega arith) (λ k a b. h k a (omega arith)))
    (λ (l : suc i ≤ s). let e : suc i ≡ s = omega arith in ap (λ n. begun_before msg (n + 1)) e)
    (cases_lt s (suc i))

-- two sections with as many before them are one
pub one_start : (msg : List ℕ) (p q : ℕ) → begins_at msg p ≡ true → begins_at msg q ≡ true → begun_before msg p ≡ begun_before msg q → p ≡ q
one_start msg p q a b e =
    ⊎_elim (λ same. same)
    (λ apart.
    ⊎_elim (λ (l : p < q). absurd (omega (arith, e, begun_one msg p a, begun_grows msg (p + 1) q (omega arith))))
    (λ (l : q < p). absurd (omega (arith, e, begun_one msg q b, begun_grows msg (q + 1) p (omega arith))))
    apart)
    (cases_order p q)

-- How a search for sections goes on.
use Rattle.std.proofs.Common.{◌≡◌, ℕ, zero, suc, ◌+◌, ◌<◌, ◌≤◌, true, false, eqb, leb, List, length, get_or, take, drop, ap, ◌∙◌, ⊎_elim, arith}
use Rattle.std.proofs.lemmas.List.{get_or-take, get_or-drop, get_or_past}
use Rattle.std.proofs.lemmas.Bool.{and_parts, leb-true, cases_lt, both_ways, false_from_ne_true}
use Rattle.sections.specs.Sections.{section_header, begins_at, begun_before, NoneBegins}
use Rattle.sections.proofs.Counting.{begun_one, begun_none, begun_grows}

-- the three bytes that are read tell whether a section begins
pub window : (msg bytes : List ℕ) (i : ℕ) → bytes ≡ take 3 (drop i msg) → section_header (get_or bytes 0 0) (get_or bytes 1 0) (get_or bytes 2 0) ≡ begins_at msg i
window msg bytes i e =
    let z : i + 0 ≡ i = omega arith in
    let byte : (k : ℕ) → k < 3 → get_or bytes k 0 ≡ get_or msg (i + k) 0 = λ k l. ap (λ bs. get_or bs k 0) e ∙ get_or-take 3 (drop i msg) k 0 l ∙ get_or-drop i msg k 0 in
    rw (byte 0 (omega arith) ∙ ap (λ k. get_or msg k 0) z, byte 1 (omega arith), byte 2 (omega arith))

-- and all three are in the message
pub begins_inside : (msg : List ℕ) (i : ℕ) → begins_at msg i ≡ true → i + 3 ≤ length msg
begins_inside msg i h =
    let b0 = get_or msg i 0 in
    let b1 = get_or msg (i + 1) 0 in
    let b2 = get_or msg (i + 2) 0 in
    let p = and_parts (eqb b0 0) _ h in
    let q = and_parts _ _ p.1 in
    let r = and_parts (leb 112 b2) _ q.1 in
    ⊎_elim (λ (l : i + 2 < length msg). omega (arith, l))
    (λ (l : length msg ≤ i + 2). absurd (omega (arith, leb-true 112 b2 r.0, get_or_past msg (i + 2) 0 l)))
    (cases_lt (i + 2) (length msg))

pub none_at_end : (msg : List ℕ) (i : ℕ) → length msg ≤ i + 2 → begins_at msg i ≡ false
none_at_end msg i l = false_from_ne_true (begins_at msg i) (λ t. omega (arith, begins_inside msg i t))

-- one more position at which none begins
pub none_one_more : (msg : List ℕ) (a b : ℕ) → NoneBegins msg a b → begins_at msg b ≡ false → NoneBegins msg a (b + 1)
none_one_more msg a b h e = λ k l m.
    ⊎_elim (λ (n : k < b). h k l n) (λ (n : b ≤ k). let s : k ≡ b = omega arith in ap (begins_at msg) s ∙ e) (cases_lt k b)

-- and no more from where fewer than three bytes are left
pub none_to_end : (msg : List ℕ) (a b : ℕ) → NoneBegins msg a b → length msg ≤ b + 2 → NoneBegins msg a (length msg)
none_to_end msg a b h e = λ k l m.
    ⊎_elim (λ (n : k < b). h k l n) (λ (n : b ≤ k). none_at_end msg k (omega arith)) (cases_lt k b)

-- where none begins, the number of those before stays
pub begun_same : (msg : List ℕ) (a b : ℕ) → a ≤ b → NoneBegins msg a b → begun_before msg b ≡ begun_before msg a
begun_same msg a zero le h = let e : zero ≡ a = omega arith in ap (begun_before msg) e
begun_same msg a (suc b) le h =
    ⊎_elim
    (λ (l : a < suc b).
    let e : suc b ≡ b + 1 = omega arith in
    ap (begun_before msg) e ∙ begun_none msg b (h b (omega arith) (omega arith)) ∙ begun_same msg a b (omega arith) (λ k m n. h k m (omega arith)))
    (λ (l : suc b ≤ a). let e : suc b ≡ a = omega arith in ap (begun_before msg) e)
    (cases_lt a (suc b))

-- the next section has one more before it
pub begun_next : (msg : List ℕ) (start next : ℕ) → begins_at msg start ≡ true → start + 1 ≤ next → NoneBegins msg (start + 1) next → begun_before msg next ≡ begun_before msg start + 1
begun_next msg start next begins le none = begun_same msg (start + 1) next le none ∙ begun_one msg start begins

-- where none begins past a section, none has more before it
pub no_more : (msg : List ℕ) (start n : ℕ) → begun_before msg start < n → NoneBegins msg (start + 1) (length msg) → (i : ℕ) → begins_at msg i ≡ true → begun_before msg i ≡ n → ⊥
no_more msg start n few none i begins number =
    ⊎_elim (λ (l : start < i). both_ways _ (none i (omega arith) (omega (arith, begins_inside msg i begins))) begins)
    (λ (l : i ≤ start). omega (arith, begun_grows msg i start l, few, number))
    (cases_lt start i)

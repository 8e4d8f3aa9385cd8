-- Places of a ring, and which of them stay as they are when one is written.
use Rattle.std.proofs.Common.{◌≡◌, ℕ, zero, suc, ◌+◌, ◌-◌, ◌*◌, ◌%◌, ◌<◌, ◌≤◌, ◌≢◌, List, ◌∷◌, ◌++◌, map, length, take, drop, sym, refl, ap, ◌∙◌, ⊎_elim, mul-le-mul_right, mod-eq_of_lt, add-mul, one-mul, arith}
use native.Mathlib.Nat.{mod-eq-sub-mod, mod-add-mod}
use lib.Seq.{paste}
use Rattle.std.proofs.lemmas.List.{drop-take, drop-drop, take-take, take_at, drop_at, take-append-le, length-take}
use Rattle.std.proofs.lemmas.List.Edits.{paste_all, drop-paste}
use Rattle.std.proofs.lemmas.Bool.{cases_lt}
use Rattle.std.specs.List.{range_with_len}
use Rattle.queue.specs.Rings.{slot}

-- a slot, by cases
pub slot_below : (k head i : ℕ) → head + i < k → slot k head i ≡ head + i
slot_below k head i h = mod-eq_of_lt h

pub slot_above : (k head i : ℕ) → head < k → i ≤ k → k ≤ head + i → slot k head i ≡ (head + i) - k
slot_above k head i l m h = mod-eq-sub-mod h ∙ mod-eq_of_lt (omega arith)

pub slots_apart : (k head i j : ℕ) → head < k → i < j → j < k → slot k head i ≢ slot k head j
slots_apart k head i j h l m e =
    ⊎_elim
    (λ (a : head + i < k).
    ⊎_elim
    (λ (b : head + j < k). omega (arith, slot_below k head i a, slot_below k head j b, e))
    (λ (b : k ≤ head + j). omega (arith, slot_below k head i a, slot_above k head j h (omega arith) b, e))
    (cases_lt (head + j) k))
    (λ (a : k ≤ head + i). omega (arith, slot_above k head i h (omega arith) a, slot_above k head j h (omega arith) (omega arith), e))
    (cases_lt (head + i) k)

-- the places behind the oldest are those of the ring from the next place on
pub slot_next : (k head i : ℕ) → slot k head (i + 1) ≡ slot k (slot k head 1) i
slot_next k head i = let e : head + (i + 1) ≡ (head + 1) + i = omega arith in ap (λ n. n % k) e ∙ sym (mod-add-mod (head + 1) k i)

-- the bytes of two places do not overlap
pub apart : (s t width : ℕ) → s < t → s * width + width ≤ t * width
apart s t width h =
    let a : (s + 1) * width ≤ t * width = mul-le-mul_right width (omega arith) in
    omega (arith, add-mul s 1 width, one-mul width)

-- a payload at the front of its place lies within the bytes
pub within : (s k width n bytes : ℕ) → s < k → k * width ≤ bytes → n ≤ width → s * width + n ≤ bytes
within s k width n bytes l room fits = omega (arith, apart s k width l)

-- what a write of p at `at` leaves of the bytes before it and past it, and what it writes
pub kept_below : (d p : List ℕ) (at a m : ℕ) → a + m ≤ at → at ≤ length d → take m (drop a (paste d at p (length p))) ≡ take m (drop a d)
kept_below d p at a m h l =
    let e = paste_all d at p (length p) refl in
    let t = take-append-le (a + m) (take at d) (p ++ drop (at + length p) d) (omega (arith, length-take at d)) in
    let u = take-take (a + m) at d (omega arith) in
    sym (drop-take a m (paste d at p (length p))) ∙ ap (drop a) (ap (take (a + m)) e ∙ t ∙ u) ∙ drop-take a m d

pub kept_above : (d p : List ℕ) (at a m : ℕ) → at + length p ≤ a → at ≤ length d → take m (drop a (paste d at p (length p))) ≡ take m (drop a d)
kept_above d p at a m h l =
    let n = at + length p in
    let e : a ≡ n + (a - n) = omega arith in
    let f = drop-paste d at p (length p) l (omega arith) in
    ap (take m)
    (ap (λ k. drop k (paste d at p (length p))) e ∙ sym (drop-drop (a - n) n (paste d at p (length p))) ∙ ap (drop (a - n)) f ∙ drop-drop (a - n) n d ∙ ap (λ k. drop k d) (sym e))

pub written : (d p : List ℕ) (at : ℕ) → at ≤ length d → take (length p) (drop at (paste d at p (length p))) ≡ p
written d p at l =
    let e = paste_all d at p (length p) refl in
    ap (λ k. take (length p) (drop at k)) e ∙ ap (take (length p)) (drop_at (take at d) (p ++ drop (at + length p) d) at (omega (arith, length-take at d))) ∙ take_at p _ (length p) refl

-- lists by index
pub map_counting_same : {X : Type 0} (f g : ℕ → X) (a n : ℕ) → ((i : ℕ) → a ≤ i → i < a + n → f i ≡ g i) → map f (range_with_len a n) ≡ map g (range_with_len a n)
map_counting_same f g a zero h = refl
map_counting_same f g a (suc n) h =
    let x = h a (omega arith) (omega arith) in
    let r = map_counting_same f g (a + 1) n (λ i l m. h i (omega arith) (omega arith)) in
    cc

pub map_counting_shift : {X : Type 0} (f : ℕ → X) (a n : ℕ) → map f (range_with_len (a + 1) n) ≡ map (λ i. f (i + 1)) (range_with_len a n)
map_counting_shift f a zero = refl
map_counting_shift f a (suc n) = ap (λ l. f (a + 1) ∷ l) (map_counting_shift f (a + 1) n)

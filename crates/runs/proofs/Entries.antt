-- The entries of a number, and of a tag, under each move of a table.
use Rattle.std.proofs.Common.{◌≡◌, ℕ, ◌+◌, ◌≤◌, Bool, true, false, cond, eqb, List, [], ◌∷◌, ◌++◌, length, Some, None, sym, refl, ap, ◌∙◌, subst, true≢false, arith, length-append}
use Rattle.amqp.specs.declared.tag.DeliveryTag.{DeliveryTag}
use Rattle.unsettled.specs.declared.message.UnsettledMessage.{UnsettledMessage}
use Rattle.unsettled.specs.Tables.{same_tag}
use Rattle.link.specs.Views.{Entry}
use Rattle.runs.specs.Lives.{of}
use Rattle.runs.specs.Runs.{one}
use Rattle.runs.proofs.Tables.{found, exchanged, last, but_last, filled, without}

-- how many entries have a tag
abbrev pub tally : DeliveryTag → List Entry → ℕ
tally t [] = 0
tally t (x ∷ xs) = one (same_tag x.tag t) + tally t xs

pub of_++ : (n : ℕ) (xs ys : List Entry) → of n (xs ++ ys) ≡ of n xs ++ of n ys
of_++ n [] ys = refl
of_++ n (x ∷ xs) ys = let ih = of_++ n xs ys in grind arith

pub tally_++ : (t : DeliveryTag) (xs ys : List Entry) → tally t (xs ++ ys) ≡ tally t xs + tally t ys
tally_++ t [] ys = omega arith
tally_++ t (x ∷ xs) ys = omega (arith, tally_++ t xs ys)

tally_last : (t : DeliveryTag) (x : Entry) (xs : List Entry) → one (same_tag (last x xs).tag t) + tally t (but_last x xs) ≡ tally t (x ∷ xs)
tally_last t x [] = refl
tally_last t x (y ∷ ys) = omega (arith, tally_last t y ys)

tally_filled : (t : DeliveryTag) (xs : List Entry) → tally t (filled xs) ≡ tally t xs
tally_filled t [] = refl
tally_filled t (x ∷ xs) = tally_last t x xs

pub tally_without : (t u : DeliveryTag) (xs : List Entry) → tally t (without u xs) ≤ tally t xs
tally_without t u [] = omega arith
tally_without t u (x ∷ xs) = let ih = tally_without t u xs in let k = tally_filled t xs in grind arith

-- swap-remove: at most one has the number, so the order does not matter
turned : (n : ℕ) (x : Entry) (xs : List Entry) → of n (but_last x xs) ++ of n (last x xs ∷ []) ≡ of n (x ∷ xs)
turned n x [] = refl
turned n x (y ∷ ys) = let ih = turned n y ys in grind arith

swapped : (cs bs : List Entry) → length (cs ++ bs) ≤ 1 → bs ++ cs ≡ cs ++ bs
swapped [] [] h = refl
swapped [] (b ∷ []) h = refl
swapped [] (b ∷ (c ∷ bs)) h = absurd (omega arith)
swapped (a ∷ []) [] h = refl
swapped (a ∷ (c ∷ cs)) [] h = absurd (omega arith)
swapped (a ∷ cs) (b ∷ bs) h = absurd (omega (arith, length-append cs (b ∷ bs)))

of_filled : (n : ℕ) (xs : List Entry) → length (of n xs) ≤ 1 → of n (filled xs) ≡ of n xs
of_filled n [] h = refl
of_filled n (x ∷ xs) h =
    let e = turned n x xs in
    of_++ n (last x xs ∷ []) (but_last x xs)
    ∙ swapped (of n (but_last x xs)) (of n (last x xs ∷ [])) (omega (arith, ap length e)) ∙ e

-- ---- the entry that a tag finds

pub found_tag : (t : DeliveryTag) (x : Entry) (xs : List Entry) → found t xs ≡ Some x → same_tag x.tag t ≡ true
found_tag t x [] h = absurd (cc)
found_tag t x (y ∷ xs) h = let ih = found_tag t x xs in grind arith

pub found_none : (t : DeliveryTag) (n : ℕ) (e : Entry) (xs ys : List Entry) → found t xs ≡ None → of n xs ≡ e ∷ ys → same_tag e.tag t ≡ false
found_none t n e [] ys h k = absurd (cc)
found_none t n e (x ∷ xs) ys h k = go (same_tag x.tag t) (eqb n x.entry.ticket) refl h k (found_none t n e xs ys)
  where
    go : (b c : Bool) → same_tag x.tag t ≡ b → cond b (Some x) (found t xs) ≡ None → cond c (x ∷ of n xs) (of n xs) ≡ e ∷ ys
        → (found t xs ≡ None → of n xs ≡ e ∷ ys → same_tag e.tag t ≡ false) → same_tag e.tag t ≡ false
    go true c q f k' ih = absurd (cc)
    go false true q f k' ih = let z : x ≡ e = cc in subst (λ (y : Entry). same_tag y.tag t ≡ false) z q
    go false false q f k' ih = ih f k'

-- it has another number: nothing of the number changes
pub exchange_other : (t : DeliveryTag) (m : UnsettledMessage) (n : ℕ) (x : Entry) (xs : List Entry) → found t xs ≡ Some x → m.ticket ≡ x.entry.ticket → eqb n x.entry.ticket ≡ false
    → of n (exchanged t m xs) ≡ of n xs
exchange_other t m n x [] h q k = refl
exchange_other t m n x (y ∷ xs) h q k = let ih = exchange_other t m n x xs in grind arith

pub without_other : (t : DeliveryTag) (n : ℕ) (x : Entry) (xs : List Entry) → found t xs ≡ Some x → eqb n x.entry.ticket ≡ false
    → length (of n xs) ≤ 1 → of n (without t xs) ≡ of n xs
without_other t n x [] h k w = refl
without_other t n x (y ∷ xs) h k w = go (same_tag y.tag t) (eqb n y.entry.ticket) refl h w (without_other t n x xs)
  where
    go : (b c : Bool) → eqb n y.entry.ticket ≡ c → cond b (Some y) (found t xs) ≡ Some x → length (cond c (y ∷ of n xs) (of n xs)) ≤ 1
        → (found t xs ≡ Some x → eqb n x.entry.ticket ≡ false → length (of n xs) ≤ 1 → of n (without t xs) ≡ of n xs)
        → of n (cond b (filled xs) (y ∷ without t xs)) ≡ cond c (y ∷ of n xs) (of n xs)
    go true true q f w' ih =
        let z : x ≡ y = cc in
        absurd (true≢false (sym q ∙ sym (ap (λ r. eqb n r.entry.ticket) z) ∙ k))
    go true false q f w' ih = of_filled n xs w'
    go false true q f w' ih = rw q (ap (λ r. y ∷ r) (ih f k (omega arith)))
    go false false q f w' ih = rw q (ih f k w')

-- it has the number, and is the only one
pub found_has : (t : DeliveryTag) (n : ℕ) (x : Entry) (xs : List Entry) → found t xs ≡ Some x → eqb n x.entry.ticket ≡ true
    → 1 ≤ length (of n xs)
found_has t n x [] h k = absurd (cc)
found_has t n x (y ∷ xs) h k = let ih = found_has t n x xs in grind arith

-- what the first slot of a table with one entry of the number says of the rest
module _ (t : DeliveryTag) (n : ℕ) (x e y : Entry) (xs : List Entry) where
  abbrev Rest : Type 0 → Type 0
  Rest P = found t xs ≡ Some x → of n xs ≡ e ∷ [] → P

  -- the two tests at the first slot, and what each way gives
  split : {P : Type 0} (k : eqb n x.entry.ticket ≡ true) (b c : Bool) → eqb n y.entry.ticket ≡ c → cond b (Some y) (found t xs) ≡ Some x → cond c (y ∷ of n xs) (of n xs) ≡ e ∷ []
      → (b ≡ true → c ≡ true → y ≡ x → y ≡ e → of n xs ≡ [] → P) → (b ≡ false → c ≡ false → Rest P) → P
  split k true true q f w here there = let z : y ≡ x = cc in let u : y ≡ e = cc in let v : of n xs ≡ [] = cc in here refl refl z u v
  split k true false q f w here there =
      let z : x ≡ y = cc in
      absurd (true≢false (sym k ∙ ap (λ r. eqb n r.entry.ticket) z ∙ q))
  split k false true q f w here there =
      let z : of n xs ≡ [] = cc in
      absurd (let u = found_has t n x xs f k in let v : length (of n xs) ≡ 0 = ap length z in omega arith)
  split k false false q f w here there = there refl refl f w

pub found_one : (t : DeliveryTag) (n : ℕ) (x e : Entry) (xs : List Entry) → found t xs ≡ Some x → eqb n x.entry.ticket ≡ true → of n xs ≡ e ∷ [] → x ≡ e
found_one t n x e [] h k w = absurd (cc)
found_one t n x e (y ∷ xs) h k w =
    split t n x e y xs k (same_tag y.tag t) (eqb n y.entry.ticket) refl h w
    (λ b c z u v. sym z ∙ u) (λ b c f w'. found_one t n x e xs f k w')

pub exchange_it : (t : DeliveryTag) (m : UnsettledMessage) (n : ℕ) (x : Entry) (xs : List Entry) → found t xs ≡ Some x → m.ticket ≡ x.entry.ticket → eqb n x.entry.ticket ≡ true
    → of n xs ≡ x ∷ [] → of n (exchanged t m xs) ≡ record { tag = t; entry = m } ∷ []
exchange_it t m n x [] h q k w = absurd (cc)
exchange_it t m n x (y ∷ xs) h q k w =
    split t n x x y xs k (same_tag y.tag t) (eqb n y.entry.ticket) refl h w
    (λ b c z u v. rw b (let j : eqb n m.ticket ≡ true = ap (eqb n) q ∙ k in rw j (ap (λ r. record { tag = t; entry = m } ∷ r) v)))
    (λ b c f w'. rw b (rw c (exchange_it t m n x xs f q k w')))

pub without_it : (t : DeliveryTag) (n : ℕ) (x : Entry) (xs : List Entry) → found t xs ≡ Some x → eqb n x.entry.ticket ≡ true
    → of n xs ≡ x ∷ [] → of n (without t xs) ≡ []
without_it t n x [] h k w = refl
without_it t n x (y ∷ xs) h k w =
    split t n x x y xs k (same_tag y.tag t) (eqb n y.entry.ticket) refl h w
    (λ b c z u v. rw b (of_filled n xs (omega (arith, ap length v)) ∙ v))
    (λ b c f w'. rw b (rw c (without_it t n x xs f k w')))

-- another with the same tag: not where a tag is there once
pub found_other : (t : DeliveryTag) (n : ℕ) (x e : Entry) (xs : List Entry) → found t xs ≡ Some x → eqb n x.entry.ticket ≡ false
    → of n xs ≡ e ∷ [] → tally t xs ≤ 1 → same_tag e.tag t ≡ false
found_other t n x e [] h k w u = absurd (cc)
found_other t n x e (y ∷ xs) h k w u = go (same_tag y.tag t) (eqb n y.entry.ticket) refl refl h w u (found_other t n x e xs)
  where
    none_of : (xs : List Entry) → of n xs ≡ e ∷ [] → tally t xs ≡ 0 → same_tag e.tag t ≡ false
    none_of [] h' k' = absurd (cc)
    none_of (y ∷ ys) h' k' = let ih = none_of ys in grind arith

    go : (b c : Bool) → same_tag y.tag t ≡ b → eqb n y.entry.ticket ≡ c → cond b (Some y) (found t xs) ≡ Some x
        → cond c (y ∷ of n xs) (of n xs) ≡ e ∷ [] → one b + tally t xs ≤ 1
        → (found t xs ≡ Some x → eqb n x.entry.ticket ≡ false → of n xs ≡ e ∷ [] → tally t xs ≤ 1 → same_tag e.tag t ≡ false)
        → same_tag e.tag t ≡ false
    go true true q' q f w' u' ih =
        let z : y ≡ x = cc in
        absurd (true≢false (sym q ∙ ap (λ r. eqb n r.entry.ticket) z ∙ k))
    go true false q' q f w' u' ih = none_of xs w' (omega arith)
    go false true q' q f w' u' ih = let z : y ≡ e = cc in subst (λ (r : Entry). same_tag r.tag t ≡ false) z q'
    go false false q' q f w' u' ih = ih f k w' (omega arith)

-- replacing an entry keeps each tag as often as it was, where the tag is one with the entry's
pub tally_exchange : (t u : DeliveryTag) (m : UnsettledMessage) (xs : List Entry) → ((x : Entry) → same_tag x.tag u ≡ true → x.tag ≡ u) → tally t (exchanged u m xs) ≡ tally t xs
tally_exchange t u m [] s = refl
tally_exchange t u m (x ∷ xs) s = go (same_tag x.tag u) refl (tally_exchange t u m xs s)
  where
    go : (b : Bool) → same_tag x.tag u ≡ b → tally t (exchanged u m xs) ≡ tally t xs → tally t (cond b (record { tag = u; entry = m } ∷ xs) (x ∷ exchanged u m xs)) ≡ one (same_tag x.tag t) + tally t xs
    go true q ih = ap (λ (r : DeliveryTag). one (same_tag r t) + tally t xs) (sym (s x q))
    go false q ih = omega (arith, ih)

-- A table that is the front of `len` slots of the memory `s`, and what becomes of it.
use Rattle.std.proofs.Common.{◌≡◌, ℕ, zero, suc, ◌+◌, ◌-◌, ◌<◌, ◌≤◌, Bool, true, false, cond, ◌||◌, not, ltb, leb, List, [], ◌∷◌, ◌++◌, length, get_or, take, set, is_some, Some, None, Option, sym, ap, ◌∙◌, arith}
use Rattle.std.specs.Option.{option_map, unwrap_or}
use lib.Seq.{take-set-lt}
use Rattle.std.proofs.Math.Seq.{take-nil}
use Rattle.std.proofs.lemmas.List.{take-take, take-set-le, take_more_set, length-take-le, get_or-take, get_or_default}
use Rattle.std.proofs.lemmas.Bool.Decides.{nat_tests}
use Rattle.amqp.specs.declared.tag.DeliveryTag.{DeliveryTag}
use Rattle.unsettled.specs.declared.slot.Slot.{Slot}
use Rattle.unsettled.specs.Lists.{replaced}
use Rattle.unsettled.specs.Tables.{has_tag, place, entry_of, look, can_put, put_in, swap_out, swap_removed}
use Rattle.unsettled.proofs.Firsts.{first_at, nowhere}

pub look_some : {M : Type 0} (t : DeliveryTag) (s : List (Slot M)) (len i : ℕ) (d : Slot M) → len ≤ length s → Some i ≡ place t (take len s) → Some (get_or s i d).entry ≡ look t (take len s)
look_some t s len i d le e =
    let f = first_at (has_tag t) (take len s) i e in
    let l = length-take-le len s le in
    let k = f.below in
    ap (λ (y : Slot _). Some y.entry) (sym (get_or-take len s i d (omega arith))) ∙ sym (ap entry_of (f.found d))

pub look_none : {M : Type 0} (t : DeliveryTag) (xs : List (Slot M)) → None ≡ place t xs → None ≡ look t xs
look_none t xs e = sym (ap entry_of (nowhere (has_tag t) xs e).found)

there_some : {M : Type 0} (t : DeliveryTag) (xs : List (Slot M)) (i : ℕ) → Some i ≡ place t xs → is_some (look t xs) ≡ true
there_some t [] i e = absurd (cc)
there_some t (x ∷ xs) i e = ap (λ o. is_some (entry_of o)) ((first_at (has_tag t) (x ∷ xs) i e).found x)

there_none : {M : Type 0} (t : DeliveryTag) (xs : List (Slot M)) → None ≡ place t xs → is_some (look t xs) ≡ false
there_none t xs e = ap is_some (sym (look_none t xs e))

-- a tag that is there has a place
pub there : {M : Type 0} (t : DeliveryTag) (xs : List (Slot M)) (o : Option ℕ) → o ≡ place t xs → is_some o ≡ is_some (look t xs)
there t xs None e = sym (there_none t xs e)
there t xs (Some i) e = sym (there_some t xs i e)

-- a present tag can be put
pub can_put_some : {M : Type 0} (r : ℕ) (t : DeliveryTag) (xs : List (Slot M)) (i : ℕ) → Some i ≡ place t xs → can_put r t xs ≡ true
can_put_some r t xs i e = ap (λ b. b || ltb (length xs) r) (there_some t xs i e)

not_full : (r n : ℕ) (b : Bool) → b ≡ leb r n → ltb n r ≡ not b
not_full r n b e = grind (arith, nat_tests)

-- a new tag can be put where the memory is not full
pub can_put_none : {M : Type 0} (r : ℕ) (t : DeliveryTag) (xs : List (Slot M)) (b : Bool) → None ≡ place t xs → b ≡ leb r (length xs) → can_put r t xs ≡ not b
can_put_none r t xs b e f = ap (λ c. c || ltb (length xs) r) (there_none t xs e) ∙ not_full r (length xs) b f

-- a present tag's slot is written over
pub put_over : {M : Type 0} (t : DeliveryTag) (m : M) (s : List (Slot M)) (len i : ℕ) → len ≤ length s → Some i ≡ place t (take len s) → take len (set s i (record { tag = t; entry = m })) ≡ put_in t m (take len s)
put_over t m s len i le e =
    let f = first_at (has_tag t) (take len s) i e in
    let l = length-take-le len s le in
    let k = f.below in
    take-set-lt len s i (record { tag = t; entry = m }) (omega arith)
    ∙ f.written (record { tag = t; entry = m })
    ∙ sym (ap (λ b. cond b (replaced (has_tag t) (record { tag = t; entry = m }) (take len s)) (take len s ++ record { tag = t; entry = m } ∷ [])) (there_some t (take len s) i e))

-- a new tag's slot is the next
pub put_next : {M : Type 0} (t : DeliveryTag) (m : M) (s : List (Slot M)) (len : ℕ) → len ≤ length s → false ≡ leb (length s) (length (take len s)) → None ≡ place t (take len s) → take (len + 1) (set s len (record { tag = t; entry = m })) ≡ put_in t m (take len s)
put_next t m s len le f e =
    let l = length-take-le len s le in
    let lt : len < length s = grind (arith, nat_tests) in
    take_more_set s len (record { tag = t; entry = m }) lt
    ∙ sym (ap (λ b. cond b (replaced (has_tag t) (record { tag = t; entry = m }) (take len s)) (take len s ++ record { tag = t; entry = m } ∷ [])) (there_none t (take len s) e))

swap_front : {X : Type 0} (s : List X) (n i : ℕ) (d : X) → i < n → n ≤ length s → take (n - 1) (set s i (get_or s (n - 1) d)) ≡ swap_out i (take n s)
swap_front [] n i d lt le = absurd (omega arith)
swap_front (x ∷ xs) zero i d lt le = absurd (omega arith)
swap_front (x ∷ xs) (suc k) i d lt le =
    let l : length (take k xs) ≡ k = length-take-le k xs (omega arith) in
    let p : suc k - 1 ≡ k = omega arith in
    let e : get_or (x ∷ take k xs) k x ≡ get_or (x ∷ xs) k d = get_or-take (suc k) (x ∷ xs) k x (omega arith) ∙ get_or_default (x ∷ xs) k x d (omega arith) in
    ap (λ j. take j (set (x ∷ xs) i (get_or (x ∷ xs) j d))) p
    ∙ sym (take-take k (suc k) (set (x ∷ xs) i (get_or (x ∷ xs) k d)) (omega arith))
    ∙ ap (take k) (take-set-lt (suc k) (x ∷ xs) i (get_or (x ∷ xs) k d) lt)
    ∙ ap (λ w. take k (set (x ∷ take k xs) i w)) (sym e)
    ∙ ap (λ j. take j (set (x ∷ take k xs) i (get_or (x ∷ take k xs) j x))) (sym l)

-- the last slot is written over a present tag's
pub swap_last : {M : Type 0} (t : DeliveryTag) (s : List (Slot M)) (len i : ℕ) (d : Slot M) → len ≤ length s → Some i ≡ place t (take len s) → take (len - 1) (set s i (get_or s (len - 1) d)) ≡ swap_removed t (take len s)
swap_last t s len i d le e =
    let l = length-take-le len s le in
    let k = (first_at (has_tag t) (take len s) i e).below in
    swap_front s len i d (omega arith) le ∙ ap (λ o. unwrap_or (option_map (λ j. swap_out j (take len s)) o) (take len s)) e

-- or is itself that tag's
pub last_out : {M : Type 0} (t : DeliveryTag) (s : List (Slot M)) (len i : ℕ) → len ≤ length s → Some i ≡ place t (take len s) → len - 1 ≤ i → take (len - 1) s ≡ swap_removed t (take len s)
last_out t [] len i le e past = take-nil (len - 1) ∙ sym (ap (swap_removed t) (take-nil len))
last_out t (x ∷ xs) len i le e past = sym (take-set-le (len - 1) (x ∷ xs) i (get_or (x ∷ xs) (len - 1) x) past) ∙ swap_last t (x ∷ xs) len i x le e

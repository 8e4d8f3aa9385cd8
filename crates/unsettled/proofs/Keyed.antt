-- What an index finds of a list whose items stand under their keys, and how they stay under them.
use Rattle.std.proofs.Common.{◌≡◌, ℕ, ◌+◌, ◌-◌, ◌<◌, ◌≤◌, Bool, true, List, [], ◌∷◌, length, get_or, take, set, Some, None, Option, sym, ap, ◌∙◌, ⊎_elim, arith}
use Rattle.std.specs.List.{position}
use Rattle.std.proofs.Math.Seq.{take-nil}
use Rattle.std.proofs.lemmas.Grind.{get_or-set_at}
use Rattle.std.proofs.lemmas.Bool.Decides.{eqb_tells}
use Rattle.std.proofs.lemmas.List.{get_or-set_other, get_or_default, get_or-take, length-set, length-take-le}
use Rattle.std.proofs.lemmas.List.Quantifiers.{position-Some}
use Rattle.std.proofs.lemmas.Bool.{both_ways, eq-eqb, false_from_ne_true}
use Rattle.amqp.specs.declared.tag.DeliveryTag.{DeliveryTag}
use Rattle.amqp.specs.Tags.{tag_bytes}
use Rattle.unsettled.specs.declared.slot.Slot.{Slot}
use Rattle.unsettled.specs.Indexes.{is_key}
use Rattle.unsettled.specs.Keys.{mixed}
use Rattle.unsettled.specs.Keyed.{Keyed, key_of}
use Rattle.unsettled.specs.Tables.{has_tag, place}
use Rattle.unsettled.proofs.Firsts.{place_is, no_place, none_passes}
use Rattle.unsettled.proofs.Same.{same_tag_decides}
use Rattle.unsettled.proofs.Threads.{read_set}

pub has_key : (m : ℕ) (o : Option ℕ) → o ≡ Some m → is_key m o ≡ true
has_key m o e = ap (is_key m) e ∙ eq-eqb m m (λ i. m)

-- the first place of the key is that of the first item which passes, if the item there does
pub keyed_first : {X : Type 0} (key : X → Option ℕ) (p : X → Bool) (keys : List (Option ℕ)) (n : ℕ) (xs : List X) (m i : ℕ) (d : X) → Keyed key keys n xs → n ≤ length xs → ((x : X) → p x ≡ true → key x ≡ Some m) → Some i ≡ position (is_key m) keys → i < length (take n xs) → p (get_or (take n xs) i d) ≡ true → Some i ≡ position p (take n xs)
unfolding Keyed
keyed_first key p keys n xs m i d h le same e lt here =
    let f = position-Some (is_key m) keys i None (sym e) in
    let l = length-take-le n xs le in
    place_is p (take n xs) i d lt
    (λ k a.
    let r = get_or-take n xs k d (omega arith) in
    false_from_ne_true _ (λ t. both_ways _ (f.2 k a) (has_key m _ (h.each k d (omega arith) (omega (arith, f.0)) ∙ same _ (sym (ap p r) ∙ t)))))
    here

-- where no place has the key, no item passes
pub keyed_nowhere : {X : Type 0} (key : X → Option ℕ) (p : X → Bool) (keys : List (Option ℕ)) (n : ℕ) (xs : List X) (m : ℕ) (d : X) → Keyed key keys n xs → n ≤ length xs → n ≤ length keys → ((x : X) → p x ≡ true → key x ≡ Some m) → None ≡ position (is_key m) keys → None ≡ position p (take n xs)
unfolding Keyed
keyed_nowhere key p keys n xs m d h le reach same e =
    let l = length-take-le n xs le in
    no_place p (take n xs) d
    (λ k a.
    let r = get_or-take n xs k d (omega arith) in
    false_from_ne_true _
    (λ t. both_ways _ (none_passes (is_key m) keys k None e (omega arith)) (has_key m _ (h.each k d (omega arith) (omega arith) ∙ same _ (sym (ap p r) ∙ t)))))

-- nor where the first place of the key is behind them
pub keyed_behind : {X : Type 0} (key : X → Option ℕ) (p : X → Bool) (keys : List (Option ℕ)) (n : ℕ) (xs : List X) (m i : ℕ) (d : X) → Keyed key keys n xs → n ≤ length xs → n ≤ i → ((x : X) → p x ≡ true → key x ≡ Some m) → Some i ≡ position (is_key m) keys → None ≡ position p (take n xs)
unfolding Keyed
keyed_behind key p keys n xs m i d h le past same e =
    let f = position-Some (is_key m) keys i None (sym e) in
    let l = length-take-le n xs le in
    no_place p (take n xs) d
    (λ k a.
    let r = get_or-take n xs k d (omega arith) in
    false_from_ne_true _ (λ t. both_ways _ (f.2 k (omega arith)) (has_key m _ (h.each k d (omega arith) (omega (arith, f.0)) ∙ same _ (sym (ap p r) ∙ t)))))

-- the next item's place gets its key
pub keyed_next : {X : Type 0} (key : X → Option ℕ) (keys : List (Option ℕ)) (n : ℕ) (xs : List X) (d : X) (o : Option ℕ) → n < length xs → o ≡ key (get_or xs n d) → Keyed key keys n xs → Keyed key (set keys n o) (n + 1) xs
unfolding Keyed
keyed_next key keys n xs d o lt e h =
    record {
      each = λ k x a r.
          let reach : k < length keys = omega (arith, r, length-set keys n o) in
          ⊎_elim
          (λ s.
          let at = s.1 in
          get_or-set_at keys n k o None at (omega (arith, at, reach)) ∙ e ∙ ap key (get_or_default xs n d x lt ∙ ap (λ j. get_or xs j x) (sym at)))
          (λ s.
          let ne = s.1 in
          get_or-set_other keys n k o None ne ∙ h.each k x (omega (arith, ne, a)) reach)
          (eqb_tells k n);
    }

-- an item is written over by one of the same key
pub keyed_over : {X : Type 0} (key : X → Option ℕ) (keys : List (Option ℕ)) (n : ℕ) (xs : List X) (i : ℕ) (y : X) → ((x : X) → i < n → key (get_or xs i x) ≡ key y) → i < length xs → Keyed key keys n xs → Keyed key keys n (set xs i y)
unfolding Keyed
keyed_over key keys n xs i y same lt h =
    record {
      each = λ k x a r.
          ⊎_elim
          (λ s.
          let at = s.0 in
          h.each k x a r ∙ ap (λ j. key (get_or xs j x)) at ∙ same x (omega arith) ∙ sym (ap key s.1))
          (λ s. h.each k x a r ∙ sym (ap key s.1)) (read_set xs i k y x lt);
    }

-- or of any key, if its place gets that
pub keyed_set : {X : Type 0} (key : X → Option ℕ) (keys : List (Option ℕ)) (n : ℕ) (xs : List X) (i : ℕ) (y : X) → i < length xs → Keyed key keys n xs → Keyed key (set keys i (key y)) n (set xs i y)
unfolding Keyed
keyed_set key keys n xs i y lt h =
    record {
      each = λ k x a r.
          let reach : k < length keys = omega (arith, r, length-set keys i (key y)) in
          ⊎_elim
          (λ s.
          let at = s.0 in
          get_or-set_at keys i k (key y) None at (omega (arith, at, reach)) ∙ sym (ap key s.1))
          (λ s. get_or-set_other keys i k (key y) None s.0 ∙ h.each k x a reach ∙ sym (ap key s.1))
          (read_set xs i k y x lt);
    }

pub keyed_none : {X : Type 0} (key : X → Option ℕ) (keys : List (Option ℕ)) (xs : List X) → Keyed key keys 0 xs
unfolding Keyed
keyed_none key keys xs = record { each = λ k x a r. absurd (omega arith) }

pub keyed_fewer : {X : Type 0} (key : X → Option ℕ) (keys : List (Option ℕ)) (n m : ℕ) (xs : List X) → m ≤ n → Keyed key keys n xs → Keyed key keys m xs
unfolding Keyed
keyed_fewer key keys n m xs le h = record { each = λ k x a r. h.each k x (omega arith) r }

-- a place past them loses its key
pub keyed_past : {X : Type 0} (key : X → Option ℕ) (keys : List (Option ℕ)) (n i : ℕ) (xs : List X) → n ≤ i → Keyed key keys n xs → Keyed key (set keys i None) n xs
unfolding Keyed
keyed_past key keys n i xs le h =
    record { each = λ k x a r. get_or-set_other keys i k None None (omega arith) ∙ h.each k x a (omega (arith, r, length-set keys i None)) }

-- ---- slots by their tags

tag_keyed : {M : Type 0} (t : DeliveryTag) (x : Slot M) → has_tag t x ≡ true → key_of x ≡ Some (mixed (tag_bytes t))
tag_keyed t x h = ap (λ u. Some (mixed (tag_bytes u))) ((same_tag_decides x.tag t).0 h)

pub slot_first : {M : Type 0} (t : DeliveryTag) (keys : List (Option ℕ)) (n : ℕ) (xs : List (Slot M)) (i : ℕ) (d : Slot M) → Keyed key_of keys n xs → n ≤ length xs → Some i ≡ position (is_key (mixed (tag_bytes t))) keys → i < length (take n xs) → has_tag t (get_or (take n xs) i d) ≡ true → Some i ≡ place t (take n xs)
slot_first t keys n xs i d h le e lt here = keyed_first key_of (has_tag t) keys n xs (mixed (tag_bytes t)) i d h le (tag_keyed t) e lt here

pub slot_nowhere : {M : Type 0} (t : DeliveryTag) (keys : List (Option ℕ)) (n : ℕ) (xs : List (Slot M)) → Keyed key_of keys n xs → n ≤ length xs → n ≤ length keys → None ≡ position (is_key (mixed (tag_bytes t))) keys → None ≡ place t (take n xs)
slot_nowhere t keys n [] h le reach e = sym (ap (place t) (take-nil n))
slot_nowhere t keys n (x ∷ xs) h le reach e = keyed_nowhere key_of (has_tag t) keys n (x ∷ xs) (mixed (tag_bytes t)) x h le reach (tag_keyed t) e

pub slot_behind : {M : Type 0} (t : DeliveryTag) (keys : List (Option ℕ)) (n : ℕ) (xs : List (Slot M)) (i : ℕ) → Keyed key_of keys n xs → n ≤ length xs → n ≤ i → Some i ≡ position (is_key (mixed (tag_bytes t))) keys → None ≡ place t (take n xs)
slot_behind t keys n [] i h le past e = sym (ap (place t) (take-nil n))
slot_behind t keys n (x ∷ xs) i h le past e = keyed_behind key_of (has_tag t) keys n (x ∷ xs) (mixed (tag_bytes t)) i x h le past (tag_keyed t) e

pub slot_over : {M : Type 0} (t : DeliveryTag) (m : M) (keys : List (Option ℕ)) (n : ℕ) (xs : List (Slot M)) (i : ℕ) → Keyed key_of keys n xs → n ≤ length xs → Some i ≡ place t (take n xs) → Keyed key_of keys n (set xs i (record { tag = t; entry = m }))
slot_over t m keys n xs i h le e =
    keyed_over key_of keys n xs i (record { tag = t; entry = m })
    (λ x a. tag_keyed t (get_or xs i x) (ap (has_tag t) (sym (get_or-take n xs i x a)) ∙ (position-Some (has_tag t) (take n xs) i x (sym e)).1))
    (let f = position-Some (has_tag t) (take n xs) i (record { tag = t; entry = m }) (sym e) in omega (arith, f.0, length-take-le n xs le)) h

pub slot_next : {M : Type 0} (keys : List (Option ℕ)) (n : ℕ) (xs : List (Slot M)) (y : Slot M) → Keyed key_of keys n xs → n < length xs → Keyed key_of (set keys n (key_of y)) (n + 1) (set xs n y)
unfolding Keyed
slot_next keys n xs y h lt =
    keyed_next key_of keys n (set xs n y) y (key_of y) (omega (arith, lt, length-set xs n y)) (sym (ap key_of (get_or-set_at xs n n y y (λ i. n) lt)))
    (record { each = λ k x a r. h.each k x a r ∙ ap key_of (sym (get_or-set_other xs n k y x (omega arith))) })

-- the last slot's place loses its key, and the slot at i is written over
pub slot_swapped : {M : Type 0} (keys gone under : List (Option ℕ)) (n i : ℕ) (xs ys : List (Slot M)) (y : Slot M) → Keyed key_of keys n xs → i < length xs → ys ≡ set xs i y → gone ≡ set keys (n - 1) None → under ≡ set gone i (key_of y) → Keyed key_of under (n - 1) ys
slot_swapped keys gone under n i xs ys y h lt written e u =
    rw (written, u, e) (keyed_set key_of (set keys (n - 1) None) (n - 1) xs i y lt (keyed_past key_of keys (n - 1) (n - 1) xs (omega arith) (keyed_fewer key_of keys n (n - 1) xs (omega arith) h)))

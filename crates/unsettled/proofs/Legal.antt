-- What an illegal tag in a peer's map is, by indices.
use Rattle.std.proofs.Common.{◌≡◌, ℕ, suc, ◌<◌, ◌≤◌, Bool, true, false, not, cond, ltb, List, [], ◌∷◌, length, Option, Some, get_or, take, Decides, sym, refl, ap, ◌∙◌, ⊎_elim, arith}
use Rattle.std.specs.List.{HoldsAt, range_with_len, find}
use Rattle.std.specs.Option.{option_map}
use Rattle.std.specs.Prelude.{nat_le}
use Rattle.amqp.specs.declared.state.DeliveryState.{DeliveryState}
use Rattle.amqp.specs.declared.tag.DeliveryTag.{DeliveryTag}
use Rattle.std.proofs.lemmas.List.Folds.{Any-from_list_any, list_any_at}
use Rattle.std.proofs.lemmas.List.FromFn.{length-range_with_len, get_or-range_with_len}
use Rattle.std.specs.Str.{bytes_eq}
use Rattle.std.proofs.lemmas.Slice.Eq.{bytes_eq-Decides}
use Rattle.std.proofs.lemmas.List.{length-take-le, get_or-take, get_or_default}
use Rattle.std.proofs.lemmas.Bool.{both_ways, not-true, not_from_false, false_from_ne_true, cases_Bool, ltb-true, ltb-false, or_cases, or_parts}
use Rattle.std.proofs.lemmas.Bool.Decides.{Decides-by_or, not_from_Decides, nat_tests}
use Rattle.unsettled.specs.declared.peer.PeerDelivery.{PeerDelivery}
use Rattle.unsettled.specs.declared.slot.Slot.{Slot}
use Rattle.unsettled.specs.Peers.{bytes_of, among, blank, tag_at, illegal_at, illegal_tags, slot_of, peers_of, pair_of, LegalTags}
use Rattle.unsettled.specs.Tables.{has_tag, entry_of, look}

illegal_decides : (ps : List PeerDelivery) → Decides (illegal_tags ps) ((k : ℕ) × (k < length ps) × (illegal_at ps k ≡ true))
illegal_decides ps = (
  λ e.
      let a = Any-from_list_any (illegal_at ps) (range_with_len 0 (length ps)) e in
      let l : a.0 < length ps = omega (arith, a.2, length-range_with_len 0 (length ps)) in
      let k : a.0 ≡ a.1 = omega (arith, get_or-range_with_len 0 (length ps) a.0 a.1 l, a.3) in
      (a.0, l, ap (illegal_at ps) k ∙ a.4),
  λ w.
      let k : get_or (range_with_len 0 (length ps)) w.0 0 ≡ w.0 = omega (arith, get_or-range_with_len 0 (length ps) w.0 0 w.1) in
      list_any_at (illegal_at ps) (range_with_len 0 (length ps)) w.0 0 (omega (arith, w.1, length-range_with_len 0 (length ps))) (ap (illegal_at ps) k ∙ w.2),
)

pub among_decides : (t : List ℕ) (ps : List PeerDelivery) → Decides (among t ps) ((k : ℕ) × (k < length ps) × HoldsAt (λ p. bytes_of p ≡ t) ps k)
among_decides t ps =
    Decides-by_or (λ p. bytes_eq (bytes_of p) t) (λ p. bytes_of p ≡ t) (among t) (λ p. bytes_eq-Decides (bytes_of p) t) refl (λ _ _. refl) ps

-- where no tag is illegal, each is short, and not among those before it
pub legal_at : (ps : List PeerDelivery) (i : ℕ) → illegal_tags ps ≡ false → i < length ps → (length (tag_at ps i) ≤ 32) × (among (tag_at ps i) (take i ps) ≡ false)
legal_at ps i e lt =
    let f : illegal_at ps i ≡ false = ⊎_elim (λ h. absurd (both_ways _ e ((illegal_decides ps).1 (i, lt, h)))) (λ h. h) (cases_Bool (illegal_at ps i)) in
    let p = or_parts (ltb 32 (length (tag_at ps i))) (among (tag_at ps i) (take i ps)) f in
    (ltb-false 32 (length (tag_at ps i)) p.0, p.1)

pub at_front : (ps : List PeerDelivery) (i j : ℕ) (d : PeerDelivery) → i < j → j ≤ length ps → bytes_of (get_or (take j ps) i d) ≡ tag_at ps i
at_front ps i j d lt le = ap bytes_of (get_or-take j ps i d lt ∙ get_or_default ps i d blank (omega arith))

legal_from : (ps : List PeerDelivery) → illegal_tags ps ≡ false → LegalTags ps
legal_from ps e =
    record {
      short = λ i lt. (legal_at ps i e lt).0;
      apart = λ i j lt lj same.
          let l = length-take-le j ps (omega arith) in
          not_from_Decides _ (among_decides (tag_at ps j) (take j ps)) (legal_at ps j e lj).1 (i, omega arith, λ d. at_front ps i j d lt (omega arith) ∙ same);
    }

none_illegal : (ps : List PeerDelivery) → LegalTags ps → illegal_tags ps ≡ true → ⊥
none_illegal ps h e =
    let w = (illegal_decides ps).0 e in
    let k = w.0 in
    let l = length-take-le k ps (omega (arith, w.1)) in
    ⊎_elim (λ long. let s = h.short k w.1 in let t = ltb-true 32 (length (tag_at ps k)) long in omega arith)
    (λ twice.
    let v = (among_decides (tag_at ps k) (take k ps)).0 twice in
    h.apart v.0 k (omega (arith, v.1)) w.1 (sym (at_front ps v.0 k blank (omega (arith, v.1)) (omega (arith, w.1))) ∙ v.2 blank))
    (or_cases (ltb 32 (length (tag_at ps k))) (among (tag_at ps k) (take k ps)) w.2)

pub not_illegal : (ps : List PeerDelivery) → LegalTags ps → false ≡ illegal_tags ps
not_illegal ps h = sym (false_from_ne_true _ (none_illegal ps h))

pub is_illegal : (ps : List PeerDelivery) → (LegalTags ps → ⊥) → true ≡ illegal_tags ps
is_illegal ps h = ⊎_elim (λ t. sym t) (λ f. absurd (h (legal_from ps f))) (cases_Bool (illegal_tags ps))

-- no tag is illegal just where all are short and no two the same
pub legal_decides : (ps : List PeerDelivery) (r : Bool) → r ≡ illegal_tags ps → Decides (not r) (LegalTags ps)
legal_decides ps r e = (
  λ h. legal_from ps (sym e ∙ not-true r h),
  λ h. ⊎_elim (λ t. absurd (none_illegal ps h (sym e ∙ t))) (λ f. not_from_false r f) (cases_Bool r),
)

-- ---- the first pair of a tag

same_pick : (b : Bool) (p : PeerDelivery) (x : Option PeerDelivery) (y : Option (Slot (Option DeliveryState)))
    → option_map (λ (q : PeerDelivery). q.state) x ≡ entry_of y
    → option_map (λ (q : PeerDelivery). q.state) (cond b (Some p) x) ≡ entry_of (cond b (Some (slot_of p)) y)
same_pick true p x y h = refl
same_pick false p x y h = h

-- where all tags are short, it tells what the pairs as a table do
pub first_told : (t : DeliveryTag) (ps : List PeerDelivery) → ((i : ℕ) → i < length ps → length (tag_at ps i) ≤ 32)
    → option_map (λ (q : PeerDelivery). q.state) (find (pair_of t) ps) ≡ look t (peers_of ps)
first_told t [] h = refl
first_told t (p ∷ ps) h =
    let b : length (bytes_of p) ≤ 32 = h 0 (omega arith) in
    let s : nat_le (length (bytes_of p)) 32 ≡ true = grind (arith, nat_tests) in
    rw s (same_pick (has_tag t (slot_of p)) p (find (pair_of t) ps) (find (has_tag t) (peers_of ps)) (first_told t ps (λ i l. h (suc i) (omega (arith, l)))))

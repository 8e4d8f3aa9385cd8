-- Tags that stand twice among a peer's pairs, as an index tells of the first ones.
use Rattle.std.proofs.Common.{◌≡◌, ◌≢◌, ℕ, ◌+◌, ◌-◌, ◌<◌, ◌≤◌, min, true, false, List, length, take, drop, Some, None, Option, sym, ap, ◌∙◌, subst, ⊎_elim, arith}
use Rattle.std.specs.List.{position}
use Rattle.std.specs.Str.{bytes_eq}
use Rattle.std.proofs.lemmas.List.{take_all, get_or-drop, length-take-le, length-drop}
use Rattle.std.proofs.lemmas.Slice.Eq.{bytes_eq-Decides}
use Rattle.std.proofs.lemmas.Bool.{both_ways, false_from_ne_true}
use Rattle.std.proofs.lemmas.Bool.Decides.{not_from_Decides}
use Rattle.unsettled.specs.declared.peer.PeerDelivery.{PeerDelivery}
use Rattle.unsettled.specs.Indexes.{is_key}
use Rattle.unsettled.specs.Keys.{mixed}
use Rattle.unsettled.specs.Keyed.{Keyed}
use Rattle.unsettled.specs.Peers.{bytes_of, among, blank, tag_at, key_of_pair, LegalTags, LegalUpTo}
use Rattle.unsettled.proofs.Firsts.{none_passes}
use Rattle.unsettled.proofs.Keyed.{has_key}
use Rattle.unsettled.proofs.Legal.{among_decides, at_front}
use Rattle.unsettled.proofs.Threads.{lower_or_not}

-- the first pairs before i
abbrev early : List PeerDelivery → ℕ → List PeerDelivery
early ps i = take (min i 1024) ps

pub stands_early : (ps : List PeerDelivery) (i j : ℕ) → i < length ps → j < i → j < 1024 → bytes_eq (tag_at ps j) (tag_at ps i) ≡ true → true ≡ among (tag_at ps i) (early ps i)
stands_early ps i j lt below few e =
    let l = length-take-le (min i 1024) ps (omega arith) in
    sym ((among_decides (tag_at ps i) (early ps i)).1
    (j, omega arith, λ d. at_front ps j (min i 1024) d (omega arith) (omega arith) ∙ (bytes_eq-Decides _ _).0 e))

pub stands_nowhere : (ps : List PeerDelivery) (keys : List (Option ℕ)) (i : ℕ) → i < length ps → length keys ≡ 1024 → Keyed key_of_pair keys i ps → None ≡ position (is_key (mixed (tag_at ps i))) keys → false ≡ among (tag_at ps i) (early ps i)
unfolding Keyed
stands_nowhere ps keys i lt reach h none =
    let l = length-take-le (min i 1024) ps (omega arith) in
    sym (false_from_ne_true _
    (λ t.
    let v = (among_decides (tag_at ps i) (early ps i)).0 t in
    let k = v.0 in
    let few : k < min i 1024 = omega (arith, v.1) in
    let same = sym (at_front ps k (min i 1024) blank few (omega arith)) ∙ v.2 blank in
    both_ways _ (none_passes (is_key (mixed (tag_at ps i))) keys k None none (omega arith))
    (has_key _ _ (h.each k blank (omega arith) (omega arith) ∙ ap (λ s. Some (mixed s)) same))))

pub apart_early : (ps : List PeerDelivery) (i j : ℕ) → i < length ps → false ≡ among (tag_at ps i) (early ps i) → j < i → j < 1024 → tag_at ps j ≢ tag_at ps i
apart_early ps i j lt e below few same =
    let l = length-take-le (min i 1024) ps (omega arith) in
    not_from_Decides _ (among_decides (tag_at ps i) (early ps i)) (sym e) (j, omega arith, λ d. at_front ps j (min i 1024) d (omega arith) (omega arith) ∙ same)

pub twice : (ps : List PeerDelivery) (i : ℕ) → i < length ps → true ≡ among (tag_at ps i) (early ps i) → LegalTags ps → ⊥
twice ps i lt e h =
    let l = length-take-le (min i 1024) ps (omega arith) in
    let v = (among_decides (tag_at ps i) (early ps i)).0 (sym e) in
    let k = v.0 in
    let few : k < min i 1024 = omega (arith, v.1) in
    h.apart k i (omega arith) lt (sym (at_front ps k (min i 1024) blank few (omega arith)) ∙ v.2 blank)

-- ---- one stretch of the pairs after the other

shifted : (ps : List PeerDelivery) (from j : ℕ) → tag_at (drop from ps) j ≡ tag_at ps (from + j)
shifted ps from j = ap bytes_of (get_or-drop from ps j blank)

pub rest_is : (ps : List PeerDelivery) (from : ℕ) → take (length ps - from) (drop from ps) ≡ drop from ps
rest_is ps from = take_all (length ps - from) (drop from ps) (omega (arith, length-drop from ps))

pub legal_behind : (ps : List PeerDelivery) (from : ℕ) → from ≤ length ps → LegalTags ps → LegalTags (drop from ps)
legal_behind ps from le h =
    let l = length-drop from ps in
    record {
      short = λ i lt. subst (λ s. length s ≤ 32) (sym (shifted ps from i)) (h.short (from + i) (omega arith));
      apart = λ i j lt lj same.
          h.apart (from + i) (from + j) (omega arith) (omega arith) (sym (shifted ps from i) ∙ same ∙ shifted ps from j);
    }

behind : (ps : List PeerDelivery) (from j : ℕ) → from ≤ j → tag_at ps j ≡ tag_at (drop from ps) (j - from)
behind ps from j le =
    let e : j ≡ from + (j - from) = omega arith in
    ap (tag_at ps) e ∙ sym (shifted ps from (j - from))

pub short_on : (ps : List PeerDelivery) (from : ℕ) → from < length ps → ((j : ℕ) → 0 < from → j < length ps → length (tag_at ps j) ≤ 32) → LegalUpTo 1024 (drop from ps) → (j : ℕ) → j < length ps → length (tag_at ps j) ≤ 32
short_on ps from lt before h j l =
    let n = length-drop from ps in
    ⊎_elim (λ a. before j (omega arith) l) (λ a. subst (λ s. length s ≤ 32) (sym (behind ps from j a)) (h.short (j - from) (omega arith))) (lower_or_not j from)

pub apart_on : (ps : List PeerDelivery) (from : ℕ) → from < length ps → ((j k : ℕ) → j < from → j < k → k < length ps → tag_at ps j ≢ tag_at ps k) → LegalUpTo 1024 (drop from ps) → (j k : ℕ) → j < from + 1024 → j < k → k < length ps → tag_at ps j ≢ tag_at ps k
apart_on ps from lt before h j k few below l same =
    let n = length-drop from ps in
    ⊎_elim (λ a. before j k a below l same)
    (λ a. h.apart (j - from) (k - from) (omega arith) (omega arith) (omega arith) (sym (behind ps from j a) ∙ same ∙ behind ps from k (omega arith)))
    (lower_or_not j from)

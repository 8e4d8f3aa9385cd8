-- What becomes of a peer's pairs where their tags are legal, and there is room for all of them.
use Rattle.std.proofs.Common.{◌≡◌, ℕ, zero, suc, ◌+◌, ◌<◌, ◌≤◌, Bool, true, false, cond, ◌&&◌, ◌||◌, List, [], ◌∷◌, length, get_or, take, fold, is_some, Some, None, Option, refl, sym, ap, ◌∙◌, arith}
use Rattle.std.specs.List.{find}
use Rattle.std.proofs.lemmas.List.{take_all, map_more, get_or-map, get_or-take, length-map, length-take-le}
use Rattle.std.proofs.lemmas.List.Sums.{fold_more}
use Rattle.std.proofs.lemmas.Bool.{le-leb, lt-ltb, false_from_ne_true}
use Rattle.amqp.specs.declared.state.DeliveryState.{DeliveryState}
use Rattle.amqp.specs.Tags.{tag_bytes, tag_from}
use Rattle.amqp.proofs.Tags.{bytes_from}
use Rattle.unsettled.specs.declared.slot.Slot.{Slot}
use Rattle.unsettled.specs.declared.peer.PeerDelivery.{PeerDelivery}
use Rattle.unsettled.specs.Tables.{same_tag, has_tag, entry_of}
use Rattle.unsettled.specs.Peers.{bytes_of, blank, tag_at, with_pair, peers_of, LegalTags}
use Rattle.unsettled.proofs.Same.{same_tag_decides}

-- a pair as a slot
abbrev slot_of : PeerDelivery → Slot (Option DeliveryState)
slot_of p = record { tag = tag_from (bytes_of p); entry = p.state }

one_tag : (s t : List ℕ) → length s ≤ 32 → length t ≤ 32 → tag_from s ≡ tag_from t → s ≡ t
one_tag s t h k e = sym (bytes_from s h) ∙ ap tag_bytes e ∙ bytes_from t k

none_found : {X : Type 0} (p : X → Bool) (xs : List X) → ((k : ℕ) (d : X) → k < length xs → p (get_or xs k d) ≡ false) → find p xs ≡ None
none_found p [] h = refl
none_found p (x ∷ xs) h =
    ap (λ b. cond b (Some x) (find p xs)) (h 0 x (omega arith)) ∙ none_found p xs (λ k d l. h (suc k) d (omega arith))

-- the tag of a legal pair is not among those before it
new_tag : (ps : List PeerDelivery) (i : ℕ) → LegalTags ps → i < length ps → find (has_tag (tag_from (tag_at ps i))) (peers_of (take i ps)) ≡ None
new_tag ps i h lt =
    let n = length-take-le i ps (omega arith) in
    none_found (has_tag (tag_from (tag_at ps i))) (peers_of (take i ps))
    (λ k d l.
    let m : k < i = omega (arith, l, length-map (take i ps) slot_of, n) in
    let e = get_or-map slot_of (take i ps) k blank d (omega (arith, m, n)) ∙ ap slot_of (get_or-take i ps k blank m) in
    ap (λ x. same_tag x.tag (tag_from (tag_at ps i))) e
    ∙ false_from_ne_true _ (λ t. h.apart k i m lt (one_tag _ _ (h.short k (omega arith)) (h.short i lt) ((same_tag_decides (tag_from (tag_at ps k)) (tag_from (tag_at ps i))).0 t))))

joins : {X Y : Type 0} (short free : Bool) (o : Option X) (over next xs : Y) → short ≡ true → o ≡ None → free ≡ true → cond (short && (is_some o || free)) (cond (is_some o) over next) xs ≡ next
joins short free o over next xs e f g = rw (e, f, g)

gathered_front : (ps : List PeerDelivery) (n i : ℕ) → LegalTags ps → length ps ≤ n → i ≤ length ps → fold (with_pair n) [] (take i ps) ≡ peers_of (take i ps)
gathered_front ps n zero h r le = refl
gathered_front ps n (suc i) h r le =
    let lt : i < length ps = omega arith in
    let s : suc i ≡ i + 1 = omega arith in
    let front = peers_of (take i ps) in
    let room = lt-ltb (length front) n (omega (arith, length-map (take i ps) slot_of, length-take-le i ps (omega arith))) in
    ap (λ k. fold (with_pair n) [] (take k ps)) s
    ∙ fold_more (with_pair n) [] ps i blank lt
    ∙ ap (λ xs. with_pair n xs (get_or ps i blank)) (gathered_front ps n i h r (omega arith))
    ∙ joins _ _ (entry_of (find (has_tag (tag_from (tag_at ps i))) front)) _ _ front (le-leb _ 32 (h.short i lt)) (ap entry_of (new_tag ps i h lt)) room
    ∙ sym (map_more slot_of ps i blank lt)
    ∙ ap (λ k. peers_of (take k ps)) (sym s)

-- the table holds all of them
pub gathered : (ps : List PeerDelivery) (n : ℕ) → LegalTags ps → length ps ≤ n → fold (with_pair n) [] ps ≡ peers_of ps
gathered ps n h r =
    let e = take_all (length ps) ps (omega arith) in
    ap (fold (with_pair n) []) (sym e) ∙ gathered_front ps n (length ps) h r (omega arith) ∙ ap peers_of e

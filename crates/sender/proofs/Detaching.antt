-- Lists that go back into the table, or are told, one element at a time.
use Rattle.std.proofs.Common.{◌≡◌, ℕ, suc, ◌+◌, ◌<◌, ◌≤◌, Bool, true, false, ◌||◌, List, [], ◌∷◌, ◌++◌, length, get_or, take, drop, is_some, Some, Ok, Err, Result, sym, refl, ap, ◌∙◌, arith, true≢false, length-append}
use Rattle.std.proofs.Math.Seq.{drop-cons}
use Rattle.std.proofs.lemmas.List.Elements.{filter_map-append}
use Rattle.std.proofs.lemmas.List.{take_more, take-take, take_at, take-append-drop, append-nil, append_assoc, map-append}
use Rattle.amqp.specs.declared.error.ApplyRemoteDetachError.{ApplyRemoteDetachError}
use Rattle.amqp.specs.declared.error.ApplyRemoteDetachError.TheVariants as fault
use Rattle.unsettled.specs.Tables.{look}
use Rattle.link.specs.declared.delivery.Outcome.{Outcome}
use Rattle.link.specs.declared.resumption.ResumingDelivery.{ResumingDelivery}
use Rattle.link.specs.declared.seat.Seat.{Seat}
use Rattle.link.specs.Detaching.{clash, all_end}
use Rattle.link.specs.Resuming.{delivery_of, listed}
use Rattle.link.specs.Rows.{row, gated}
use Rattle.link.specs.Turns.{End, tell_all}
use Rattle.link.specs.Views.{Entry}
use Rattle.link.proofs.Rows.{gated_err, gated_ok, row_off}
use Rattle.sender.specs.Detaches.{Joined}

pub tell_++ : (xs ys : List End) (ss : List Seat) → tell_all (xs ++ ys) ss ≡ tell_all ys (tell_all xs ss)
tell_++ [] ys ss = refl
tell_++ (x ∷ xs) ys ss = tell_++ xs ys _

clash_++ : (xs ys ts : List Entry) → clash (xs ++ ys) ts ≡ (clash xs ts || clash ys (ts ++ xs))
clash_++ [] ys ts = ap (clash ys) (sym (append-nil ts))
clash_++ (x ∷ xs) ys ts = let ih = clash_++ xs ys (ts ++ x ∷ []) ∙ ap (λ zs. clash xs (ts ++ x ∷ []) || clash ys zs) (append_assoc ts (x ∷ []) xs) in go (is_some (look x.tag ts)) ih
  where
    go : (b : Bool) → clash (xs ++ ys) (ts ++ x ∷ []) ≡ (clash xs (ts ++ x ∷ []) || clash ys (ts ++ x ∷ xs)) → (b || clash (xs ++ ys) (ts ++ x ∷ [])) ≡ ((b || clash xs (ts ++ x ∷ [])) || clash ys (ts ++ x ∷ xs))
    go true ih = refl
    go false ih = ih

row_on : {E : Type 0} (b : Bool) (x e : E) → row b x ≡ Some e → (b ≡ true) × (x ≡ e)
row_on true x e h = (refl, cc)
row_on false x e h = absurd (cc)

pub listed_++ : (is js : List ResumingDelivery) → listed (is ++ js) ≡ listed is ++ listed js
listed_++ is js = filter_map-append delivery_of is js

-- a list that is read through a function which keeps appends: the front, the element x at i, the rest
module _ {X Y : Type 0} (g : List X → List Y) (hom : (xs ys : List X) → g (xs ++ ys) ≡ g xs ++ g ys) (xs : List X) (i : ℕ) (x : X) (at : x ≡ get_or xs i x) (lt : i < length xs) where
  pub more : g (take (i + 1) xs) ≡ g (take i xs) ++ g (x ∷ [])
  more = ap g (take_more xs i x lt ∙ ap (λ y. take i xs ++ y ∷ []) (sym at)) ∙ hom (take i xs) (x ∷ [])

  pub whole : g xs ≡ g (take i xs) ++ (g (x ∷ []) ++ g (drop (suc i) xs))
  whole =
      ap g (sym (take-append-drop i xs)) ∙ hom (take i xs) (drop i xs)
      ∙ ap (λ ys. g (take i xs) ++ g ys) (drop-cons xs i x lt ∙ ap (λ y. y ∷ drop (suc i) xs) (sym at))
      ∙ ap (λ ys. g (take i xs) ++ ys) (hom (x ∷ []) (drop (suc i) xs))

  pub room : (ts ys : List Y) (n : ℕ) → ys ≡ ts ++ g (take i xs) → length ts + length (g xs) ≤ n → length ys + length (g (x ∷ [])) ≤ n
  room ts ys n e h =
      omega (
        arith,
        ap length e,
        length-append ts (g (take i xs)),
        ap length whole,
        length-append (g (take i xs)) (g (x ∷ []) ++ g (drop (suc i) xs)),
        length-append (g (x ∷ [])) (g (drop (suc i) xs)),
      )

-- one more is told
pub told_more : {X : Type 0} (g : List X → List End) (hom : (xs ys : List X) → g (xs ++ ys) ≡ g xs ++ g ys) (xs : List X) (i : ℕ) (x : X) → x ≡ get_or xs i x → i < length xs → (ss ts us : List Seat)
    → ts ≡ tell_all (g (take i xs)) ss → us ≡ tell_all (g (x ∷ [])) ts → us ≡ tell_all (g (take (i + 1) xs)) ss
told_more g hom xs i x at lt ss ts us h e =
    e ∙ ap (tell_all (g (x ∷ []))) h ∙ sym (tell_++ (g (take i xs)) (g (x ∷ [])) ss)
    ∙ ap (λ es. tell_all es ss) (sym (more g hom xs i x at lt))

-- some of a list have joined the table
pub record Joining (ts es ys : List Entry) : Type 0 where
  pub apart : clash es ts ≡ false
  pub there : ys ≡ ts ++ es

module _ {X : Type 0} (g : List X → List Entry) (hom : (xs ys : List X) → g (xs ++ ys) ≡ g xs ++ g ys) (xs : List X) (i : ℕ) (x : X) (at : x ≡ get_or xs i x) (lt : i < length xs) (ts ys zs : List Entry) (h : Joining ts (g (take i xs)) ys) where
  pub join_more : Joined ys (g (x ∷ [])) (Ok tt) zs → Joining ts (g (take (i + 1) xs)) zs
  join_more j =
      let n = row_off (clash (g (x ∷ [])) ys) fault.TagInTable (gated_ok _ tt tt j.answer).0 in
      let m = more g hom xs i x at lt in
      record {
        apart =
            ap (λ es. clash es ts) m ∙ clash_++ (g (take i xs)) (g (x ∷ [])) ts
            ∙ ap (λ b. b || clash (g (x ∷ [])) (ts ++ g (take i xs))) h.apart
            ∙ ap (clash (g (x ∷ []))) (sym h.there) ∙ n;
        there = j.joined n ∙ ap (λ t. t ++ g (x ∷ [])) h.there ∙ append_assoc ts (g (take i xs)) (g (x ∷ [])) ∙ ap (λ es. ts ++ es) (sym m);
      }

  pub join_stops : (e : ApplyRemoteDetachError) → Joined ys (g (x ∷ [])) (Err e) zs → Joined ts (g xs) (Err e) zs
  join_stops e j =
      let f = row_on (clash (g (x ∷ [])) ys) fault.TagInTable e (gated_err _ tt e j.answer) in
      let r = g (drop (suc i) xs) in
      let c : clash (g xs) ts ≡ true =
      ap (λ es. clash es ts) (whole g hom xs i x at lt) ∙ clash_++ (g (take i xs)) (g (x ∷ []) ++ r) ts
      ∙ ap (λ b. b || clash (g (x ∷ []) ++ r) (ts ++ g (take i xs))) h.apart ∙ clash_++ (g (x ∷ [])) r (ts ++ g (take i xs))
      ∙ ap (λ b. b || clash r (ts ++ g (take i xs) ++ g (x ∷ []))) (ap (clash (g (x ∷ []))) (sym h.there) ∙ f.0) in
      record {
        answer = ap Err (sym f.1) ∙ sym (ap (λ b. gated (row b fault.TagInTable) tt) c);
        joined = λ k. absurd (true≢false (sym c ∙ k));
        front =
            sym (take-take (length ts) (length ys) zs (omega (arith, ap length h.there, length-append ts (g (take i xs)))))
            ∙ ap (take (length ts)) (j.front ∙ h.there) ∙ take_at ts (g (take i xs)) (length ts) refl;
      }

-- one list after the other
pub joined_first : (ts xs ys zs : List Entry) (e : ApplyRemoteDetachError) → Joined ts xs (Err e) zs → Joined ts (xs ++ ys) (Err e) zs
joined_first ts xs ys zs e h =
    let f = row_on (clash xs ts) fault.TagInTable e (gated_err _ tt e h.answer) in
    let c : clash (xs ++ ys) ts ≡ true = clash_++ xs ys ts ∙ ap (λ b. b || clash ys (ts ++ xs)) f.0 in
    record {
      answer = ap Err (sym f.1) ∙ sym (ap (λ b. gated (row b fault.TagInTable) tt) c);
      joined = λ k. absurd (true≢false (sym c ∙ k));
      front = h.front;
    }

pub joined_then : (ts xs us ys zs : List Entry) (r : Result (Unit {0}) ApplyRemoteDetachError) → Joined ts xs (Ok tt) us → Joined us ys r zs → Joined ts (xs ++ ys) r zs
joined_then ts xs us ys zs r h k =
    let n = row_off (clash xs ts) fault.TagInTable (gated_ok _ tt tt h.answer).0 in
    let u = h.joined n in
    let c : clash (xs ++ ys) ts ≡ clash ys us = clash_++ xs ys ts ∙ ap (λ b. b || clash ys (ts ++ xs)) n ∙ ap (clash ys) (sym u) in
    record {
      answer = k.answer ∙ sym (ap (λ b. gated (row b fault.TagInTable) tt) c);
      joined = λ f. k.joined (sym c ∙ f) ∙ ap (λ t. t ++ ys) u ∙ append_assoc ts xs ys;
      front =
          sym (take-take (length ts) (length us) zs (omega (arith, ap length u, length-append ts xs)))
          ∙ ap (take (length ts)) (k.front ∙ u) ∙ take_at ts xs (length ts) refl;
    }

-- three lists are told in turn
pub told_all : (o : Outcome) (xs ys zs : List Entry) (ss ts us ws : List Seat) → ts ≡ tell_all (all_end o xs) ss → us ≡ tell_all (all_end o ys) ts → ws ≡ tell_all (all_end o zs) us
    → ws ≡ tell_all (all_end o (xs ++ (ys ++ zs))) ss
told_all o xs ys zs ss ts us ws a b c =
    c ∙ ap (tell_all (all_end o zs)) (b ∙ ap (tell_all (all_end o ys)) a)
    ∙ sym (ap (λ es. tell_all es ss) (map-append _ xs (ys ++ zs) ∙ ap (λ es. all_end o xs ++ es) (map-append _ ys zs))
    ∙ tell_++ (all_end o xs) (all_end o ys ++ all_end o zs) ss ∙ tell_++ (all_end o ys) (all_end o zs) _)

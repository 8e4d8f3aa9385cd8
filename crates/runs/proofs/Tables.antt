-- A table's moves by recursion over its slots: what a tag finds, replaces and takes out.
use Rattle.std.proofs.Common.{◌≡◌, ℕ, suc, Bool, true, false, cond, List, [], ◌∷◌, ◌++◌, length, get_or, take, set, is_some, Some, None, Option, refl, ap, ◌∙◌, ap₂, arith}
use Rattle.std.specs.List.{find}
use Rattle.std.specs.Option.{option_map, unwrap_or}
use Rattle.std.proofs.lemmas.List.{get_or_default}
use Rattle.amqp.specs.declared.tag.DeliveryTag.{DeliveryTag}
use Rattle.unsettled.specs.Lists.{replaced}
use Rattle.unsettled.specs.Tables.{same_tag, has_tag, place, entry_of, put_in, swap_out, swap_removed}
use Rattle.unsettled.proofs.Firsts.{position-cons}
use Rattle.unsettled.specs.declared.message.UnsettledMessage.{UnsettledMessage}
use Rattle.link.specs.Views.{Entry}

-- the entry of a tag
abbrev pub found : DeliveryTag → List Entry → Option Entry
found t xs = find (has_tag t) xs

-- it is replaced
abbrev pub exchanged : DeliveryTag → UnsettledMessage → List Entry → List Entry
exchanged t m xs = replaced (has_tag t) (record { tag = t; entry = m }) xs

-- the last takes its place
abbrev pub last : Entry → List Entry → Entry
last x [] = x
last x (y ∷ ys) = last y ys

abbrev pub but_last : Entry → List Entry → List Entry
but_last x [] = []
but_last x (y ∷ ys) = x ∷ but_last y ys

abbrev pub filled : List Entry → List Entry
filled [] = []
filled (x ∷ xs) = last x xs ∷ but_last x xs

abbrev pub without : DeliveryTag → List Entry → List Entry
without t [] = []
without t (x ∷ xs) = cond (same_tag x.tag t) (filled xs) (x ∷ without t xs)

-- a present tag's entry is replaced
pub put_found : (t : DeliveryTag) (m : UnsettledMessage) (xs : List Entry) (e : Entry) → found t xs ≡ Some e → put_in t m xs ≡ exchanged t m xs
put_found t m xs e h = ap (λ b. cond b (exchanged t m xs) (xs ++ record { tag = t; entry = m } ∷ [])) (ap (λ o. is_some (entry_of o)) h)

-- past the length the default does not matter
at_last : (x y : Entry) (xs : List Entry) → get_or (y ∷ xs) (length xs) x ≡ get_or (y ∷ xs) (length xs) y
at_last x y xs = get_or_default (y ∷ xs) (length xs) x y (omega arith)

length_last : (x : Entry) (xs : List Entry) → get_or (x ∷ xs) (length xs) x ≡ last x xs
length_last x [] = refl
length_last x (y ∷ ys) = at_last x y ys ∙ length_last y ys

fronted : (x : Entry) (xs : List Entry) → take (length xs) (x ∷ xs) ≡ but_last x xs
fronted x [] = refl
fronted x (y ∷ ys) = ap (λ l. x ∷ l) (fronted y ys)

-- taking out the first, the last takes its place; else it is one further on
swapped_first : (x : Entry) (xs : List Entry) → swap_out 0 (x ∷ xs) ≡ filled xs
swapped_first x [] = refl
swapped_first x (y ∷ ys) = ap₂ (λ a l. a ∷ l) (at_last x y ys ∙ length_last y ys) (fronted y ys)

swapped_later : (x y : Entry) (ys : List Entry) (i : ℕ) → swap_out (suc i) (x ∷ (y ∷ ys)) ≡ x ∷ swap_out i (y ∷ ys)
swapped_later x y ys i = ap (λ a. x ∷ take (length ys) (set (y ∷ ys) i a)) (at_last x y ys)

pub swap_found : (t : DeliveryTag) (xs : List Entry) (e : Entry) → found t xs ≡ Some e → swap_removed t xs ≡ without t xs
swap_found t [] e h = refl
swap_found t (x ∷ xs) e h =
    ap (λ o. unwrap_or (option_map (λ i. swap_out i (x ∷ xs)) o) (x ∷ xs)) (position-cons (has_tag t) x xs)
    ∙ go (same_tag x.tag t) (place t xs) xs h (swap_found t xs e)
  where
    go : (b : Bool) (o : Option ℕ) (ys : List Entry) → cond b (Some x) (found t ys) ≡ Some e → (found t ys ≡ Some e → unwrap_or (option_map (λ i. swap_out i ys) o) ys ≡ without t ys)
        → unwrap_or (option_map (λ i. swap_out i (x ∷ ys)) (cond b (Some 0) (option_map suc o))) (x ∷ ys) ≡ cond b (filled ys) (x ∷ without t ys)
    go true o ys f ih = swapped_first x ys
    go false None ys f ih = ap (λ l. x ∷ l) (ih f)
    go false (Some i) [] f ih = absurd (cc)
    go false (Some i) (y ∷ ys) f ih = swapped_later x y ys i ∙ ap (λ l. x ∷ l) (ih f)

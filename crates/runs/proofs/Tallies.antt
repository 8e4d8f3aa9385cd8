-- How many entries lists have, in all and of a tag, under the moves of an attach, a disposition and a detach.
use Rattle.std.proofs.Common.{◌≡◌, ◌+◌, ◌≤◌, false, List, [], ◌∷◌, ◌++◌, length, is_some, refl, ap, ◌∙◌, arith, length-append}
use Rattle.std.specs.List.{flat_map}
use Rattle.std.proofs.lemmas.List.Elements.{filter_map-append}
use Rattle.amqp.specs.declared.tag.DeliveryTag.{DeliveryTag}
use Rattle.unsettled.specs.declared.message.UnsettledMessage.{UnsettledMessage}
use Rattle.unsettled.specs.Tables.{same_tag, look}
use Rattle.unsettled.proofs.Same.{same_tag_decides}
use Rattle.link.specs.declared.attach.Attach.{Attach}
use Rattle.link.specs.declared.resumption.Resumption.{Resumption}
use Rattle.link.specs.declared.resumption.Resumption.TheVariants as to
use Rattle.link.specs.declared.resumption.ResumingDelivery.{ResumingDelivery}
use Rattle.link.specs.Detaching.{clash}
use Rattle.link.specs.Resuming.{judge, item_for, item_of, delivery_of, listed}
use Rattle.link.specs.Views.{Entry}
use Rattle.runs.specs.Runs.{one}
use Rattle.runs.proofs.Tables.{exchanged, last, but_last, filled, without}
use Rattle.runs.proofs.Entries.{tally, tally_++}

-- ---- a table whose entry is taken out or exchanged

length_last : (x : Entry) (xs : List Entry) → length (last x xs ∷ but_last x xs) ≡ length (x ∷ xs)
length_last x [] = refl
length_last x (y ∷ ys) = omega (arith, length_last y ys)

length_filled : (xs : List Entry) → length (filled xs) ≡ length xs
length_filled [] = refl
length_filled (x ∷ xs) = length_last x xs

pub length_without : (t : DeliveryTag) (xs : List Entry) → length (without t xs) ≤ length xs
length_without t [] = omega arith
length_without t (x ∷ xs) = let ih = length_without t xs in let k = length_filled xs in grind arith

pub length_exchanged : (t : DeliveryTag) (m : UnsettledMessage) (xs : List Entry) → length (exchanged t m xs) ≡ length xs
length_exchanged t m [] = refl
length_exchanged t m (x ∷ xs) = let ih = length_exchanged t m xs in grind arith

-- ---- the resume list

pub tally_listed : (t : DeliveryTag) (is js : List ResumingDelivery) → tally t (listed (is ++ js)) ≡ tally t (listed is) + tally t (listed js)
tally_listed t is js = ap (tally t) (filter_map-append delivery_of is js) ∙ tally_++ t (listed is) (listed js)

pub length_listed : (is js : List ResumingDelivery) → length (listed (is ++ js)) ≡ length (listed is) + length (listed js)
length_listed is js = ap length (filter_map-append delivery_of is js) ∙ length-append (listed is) (listed js)

tally_item : (t : DeliveryTag) (r : Resumption) (e : Entry) → tally t (listed (item_for r e)) ≤ one (same_tag e.tag t)
tally_item t to.Resend e = omega arith
tally_item t (to.Resume p) e = omega arith
tally_item t to.Abort e = omega arith
tally_item t to.RestateOutcome e = omega arith
tally_item t (to.End s) e = omega arith
tally_item t (to.Settle s) e = omega arith

length_item : (r : Resumption) (e : Entry) → length (listed (item_for r e)) ≤ 1
length_item to.Resend e = omega arith
length_item (to.Resume p) e = omega arith
length_item to.Abort e = omega arith
length_item to.RestateOutcome e = omega arith
length_item (to.End s) e = omega arith
length_item (to.Settle s) e = omega arith

-- what an attach makes of a table
pub tally_judged : (t : DeliveryTag) (a : Attach) (xs : List Entry) → tally t (listed (flat_map (item_of a) xs)) ≤ tally t xs
tally_judged t a [] = omega arith
tally_judged t a (x ∷ xs) =
    omega (arith, tally_item t (judge a x) x, tally_judged t a xs, tally_listed t (item_of a x) (flat_map (item_of a) xs))

pub length_judged : (a : Attach) (xs : List Entry) → length (listed (flat_map (item_of a) xs)) ≤ length xs
length_judged a [] = omega arith
length_judged a (x ∷ xs) =
    omega (arith, length_item (judge a x) x, length_judged a xs, length_listed (item_of a x) (flat_map (item_of a) xs))

-- ---- what is not there

pub absent : (t : DeliveryTag) (xs : List Entry) → tally t xs ≡ 0 → is_some (look t xs) ≡ false
absent t [] h = refl
absent t (x ∷ xs) h = let ih = absent t xs in grind arith

pub own_tag : (t : DeliveryTag) → one (same_tag t t) ≡ 1
own_tag t = ap one ((same_tag_decides t t).1 refl)

pub no_clash : (es xs : List Entry) → ((t : DeliveryTag) → tally t xs + tally t es ≤ 1) → clash es xs ≡ false
no_clash [] xs h = refl
no_clash (e ∷ es) xs h =
    let a = absent e.tag xs (omega (arith, own_tag e.tag, h e.tag)) in
    let ih = no_clash es (xs ++ e ∷ []) (λ t. omega (arith, h t, tally_++ t xs (e ∷ []))) in
    grind arith

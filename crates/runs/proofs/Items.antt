-- The items of a number in a resume list, and its deliveries.
use Rattle.std.proofs.Common.{◌≡◌, ℕ, Bool, true, false, cond, eqb, List, [], ◌∷◌, ◌++◌, refl, ap₂, ◌∙◌, arith}
use Rattle.std.specs.List.{flat_map}
use Rattle.link.specs.declared.attach.Attach.{Attach}
use Rattle.link.specs.declared.resumption.ResumingDelivery.{ResumingDelivery}
use Rattle.link.specs.declared.resumption.ResumingDelivery.TheVariants as item
use Rattle.link.specs.declared.resumption.Resumption.{Resumption}
use Rattle.link.specs.declared.resumption.Resumption.TheVariants as to
use Rattle.link.specs.Resuming.{judge, item_for, item_of, listed}
use Rattle.link.specs.Views.{Entry}
use Rattle.runs.specs.Lives.{judged, works_on, of, items_of, in_its_resume_list}

pub items_of_++ : (n : ℕ) (is js : List ResumingDelivery) → items_of n (is ++ js) ≡ items_of n is ++ items_of n js
items_of_++ n [] js = refl
items_of_++ n (item.Resend e ∷ is) js = let ih = items_of_++ n is js in grind arith
items_of_++ n (item.Resume e p ∷ is) js = let ih = items_of_++ n is js in grind arith
items_of_++ n (item.Abort e ∷ is) js = let ih = items_of_++ n is js in grind arith
items_of_++ n (item.RestateOutcome e ∷ is) js = let ih = items_of_++ n is js in grind arith
items_of_++ n (item.Settling t f o ∷ is) js = items_of_++ n is js

-- the first is the number's where its turn has come
pub items_first : (n : ℕ) (i : ResumingDelivery) (is : List ResumingDelivery) → items_of n (i ∷ is) ≡ cond (works_on n (i ∷ is)) (i ∷ items_of n is) (items_of n is)
items_first n (item.Resend e) is = refl
items_first n (item.Resume e p) is = refl
items_first n (item.Abort e) is = refl
items_first n (item.RestateOutcome e) is = refl
items_first n (item.Settling t f o) is = refl

pub of_listed : (n : ℕ) (is : List ResumingDelivery) → of n (listed is) ≡ listed (items_of n is)
of_listed n [] = refl
of_listed n (item.Resend e ∷ is) = let ih = of_listed n is in grind arith
of_listed n (item.Resume e p ∷ is) = let ih = of_listed n is in grind arith
of_listed n (item.Abort e ∷ is) = let ih = of_listed n is in grind arith
of_listed n (item.RestateOutcome e ∷ is) = let ih = of_listed n is in grind arith
of_listed n (item.Settling t f o ∷ is) = of_listed n is

-- ---- attach

-- what it has wait of an entry
abbrev pub waits_of : Attach → Entry → List ResumingDelivery
waits_of a e = in_its_resume_list (judged (judge a e) e)

pub same_either : {X : Type 0} (b : Bool) (x : X) → x ≡ cond b x x
same_either true x = refl
same_either false x = refl

item_waits : (n : ℕ) (r : Resumption) (e : Entry) → items_of n (item_for r e) ≡ cond (eqb n e.entry.ticket) (in_its_resume_list (judged r e)) []
item_waits n to.Resend e = refl
item_waits n (to.Resume p) e = refl
item_waits n to.Abort e = refl
item_waits n to.RestateOutcome e = refl
item_waits n (to.End s) e = same_either (eqb n e.entry.ticket) []
item_waits n (to.Settle s) e = same_either (eqb n e.entry.ticket) []

-- what is made of the first, if it is of the number, and of the others
pub flat_first : {X Y : Type 0} (f : X → List Y) (b : Bool) (x : X) (xs : List X) → cond b (f x) [] ++ flat_map f xs ≡ flat_map f (cond b (x ∷ xs) xs)
flat_first f true x xs = refl
flat_first f false x xs = refl

pub items_attach : (n : ℕ) (a : Attach) (es : List Entry) → items_of n (flat_map (item_of a) es) ≡ flat_map (waits_of a) (of n es)
items_attach n a [] = refl
items_attach n a (e ∷ es) =
    items_of_++ n (item_of a e) (flat_map (item_of a) es)
    ∙ ap₂ (λ l m. l ++ m) (item_waits n (judge a e) e) (items_attach n a es)
    ∙ flat_first (waits_of a) (eqb n e.entry.ticket) e (of n es)

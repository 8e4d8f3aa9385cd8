-- How much is held, in all and under a tag, and that no move of what is held makes it more.
use Rattle.std.proofs.Common.{◌≡◌, ℕ, ◌+◌, ◌≤◌, Bool, true, false, List, [], ◌∷◌, length, Some, None, Option, refl, ap, arith, length-append}
use Rattle.std.specs.List.{flat_map}
use Rattle.amqp.specs.declared.error.SenderAttachError.{SenderAttachError}
use Rattle.amqp.specs.declared.tag.DeliveryTag.{DeliveryTag}
use Rattle.unsettled.specs.declared.message.UnsettledMessage.{UnsettledMessage}
use Rattle.unsettled.specs.Tables.{same_tag, put_in, swap_removed}
use Rattle.unsettled.proofs.Same.{same_tag_decides}
use Rattle.link.specs.declared.attach.Attach.{Attach}
use Rattle.link.specs.declared.resumption.ResumingDelivery.{ResumingDelivery}
use Rattle.link.specs.declared.resumption.ResumingDelivery.TheVariants as item
use Rattle.link.specs.Attaching.{resumed}
use Rattle.link.specs.Detaching.{put_back, detached_held}
use Rattle.link.specs.Resuming.{listed, item_of}
use Rattle.link.specs.Rows.{unless}
use Rattle.link.specs.Sending.{with_table}
use Rattle.link.specs.Views.{View, Held, Entry}
use Rattle.link.specs.Working.{item_turn, cut_to, start_in}
use Rattle.runs.proofs.Tables.{found, put_found, swap_found}
use Rattle.runs.proofs.Entries.{tally, tally_++, tally_without, tally_exchange}
use Rattle.runs.proofs.Tallies.{length_without, length_exchanged, tally_listed, length_listed, tally_judged, length_judged}

-- how many deliveries are held, in the table and in both lists, and how many of them under a tag
abbrev pub entries : Held → ℕ
entries h = length h.table + (length (listed h.resume) + length h.resend)

abbrev pub tags : DeliveryTag → Held → ℕ
tags t h = tally t h.table + (tally t (listed h.resume) + tally t h.resend)

-- no more is held than before
pub record Fewer (g h : Held) : Type 0 where
  pub entries : entries g ≤ entries h
  pub tags : (t : DeliveryTag) → tags t g ≤ tags t h

pub same_held : (g h : Held) → g ≡ h → Fewer g h
same_held g h e = record { entries = omega (arith, ap entries e); tags = λ t. omega (arith, ap (tags t) e) }

-- what an attach puts into the resume list was in the table
resumed_fewer : (v : View) (a : Attach) → Fewer (resumed v a) v.held
resumed_fewer v a =
    record {
      entries = omega (arith, length_listed v.held.resume (flat_map (item_of a) v.held.table), length_judged a v.held.table);
      tags = λ t. omega (arith, tally_listed t v.held.resume (flat_map (item_of a) v.held.table), tally_judged t a v.held.table);
    }

pub attached_fewer : (v : View) (a : Attach) (o : Option SenderAttachError) → Fewer (unless o v.held (resumed v a)) v.held
attached_fewer v a (Some e) = same_held v.held v.held refl
attached_fewer v a None = resumed_fewer v a

-- the tag that finds an entry is the entry's
same_as : (t : DeliveryTag) (x : Entry) → same_tag x.tag t ≡ true → x.tag ≡ t
same_as t x q = (same_tag_decides x.tag t).0 q

-- an entry is taken out of the table, or exchanged
pub removed_fewer : (v : View) (t : DeliveryTag) (x : Entry) → found t v.held.table ≡ Some x → Fewer (with_table (swap_removed t v.held.table) v.held) v.held
removed_fewer v t x f =
    let e = swap_found t v.held.table x f in
    record {
      entries = omega (arith, length_without t v.held.table, ap length e);
      tags = λ u. omega (arith, tally_without u t v.held.table, ap (tally u) e);
    }

pub put_fewer : (v : View) (t : DeliveryTag) (m : UnsettledMessage) (x : Entry) → found t v.held.table ≡ Some x → Fewer (with_table (put_in t m v.held.table) v.held) v.held
put_fewer v t m x f =
    let e = put_found t m v.held.table x f in
    record {
      entries = omega (arith, length_exchanged t m v.held.table, ap length e);
      tags = λ u. omega (arith, tally_exchange u t m v.held.table (same_as t), ap (tally u) e);
    }

pub worked_fewer : (v : View) (pool : List ℕ) (is : List ResumingDelivery) → v.held.resume ≡ is → Fewer (item_turn v pool is).held v.held
worked_fewer v pool [] q = same_held v.held v.held refl
worked_fewer v pool (item.Resend e ∷ is) q =
    record {
      entries = omega (arith, ap (λ l. length (listed l)) q, length-append v.held.resend (e ∷ []));
      tags = λ t. omega (arith, ap (λ l. tally t (listed l)) q, tally_++ t v.held.resend (e ∷ []));
    }
worked_fewer v pool (item.Resume e p ∷ is) q =
    let x = cut_to (start_in pool e.entry.place p) e in
    record {
      entries = omega (arith, ap (λ l. length (listed l)) q, length-append v.held.table (x ∷ []));
      tags = λ t. omega (arith, ap (λ l. tally t (listed l)) q, tally_++ t v.held.table (x ∷ []));
    }
worked_fewer v pool (item.Abort e ∷ is) q =
    record { entries = omega (arith, ap (λ l. length (listed l)) q); tags = λ t. omega (arith, ap (λ l. tally t (listed l)) q) }
worked_fewer v pool (item.RestateOutcome e ∷ is) q =
    record {
      entries = omega (arith, ap (λ l. length (listed l)) q, length-append v.held.table (e ∷ []));
      tags = λ t. omega (arith, ap (λ l. tally t (listed l)) q, tally_++ t v.held.table (e ∷ []));
    }
worked_fewer v pool (item.Settling t f o ∷ is) q =
    record { entries = omega (arith, ap (λ l. length (listed l)) q); tags = λ u. omega (arith, ap (λ l. tally u (listed l)) q) }

pub detached_fewer : (closed : Bool) (h : Held) → Fewer (detached_held closed h) h
detached_fewer true h = record { entries = omega arith; tags = λ t. omega arith }
detached_fewer false h =
    record {
      entries = omega (arith, length-append h.table (put_back h), length-append (listed h.resume) h.resend);
      tags = λ t. omega (arith, tally_++ t h.table (put_back h), tally_++ t (listed h.resume) h.resend);
    }

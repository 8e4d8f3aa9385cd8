-- What becomes of an unsettled delivery when the link comes back (Part 2, 2.6.13): its state here and the peer's decide.
use Rattle.std.specs.Prelude.{Bool, true, false, cond, List, [], ◌∷◌, Some, None, Option}
use Rattle.std.specs.List.{filter_map}
use Rattle.amqp.specs.declared.state.DeliveryState.{DeliveryState}
use Rattle.amqp.specs.declared.state.DeliveryState.TheVariants.{Received, Accepted, Rejected, Released, Modified}
use Rattle.amqp.specs.declared.state.Received.{Received as Reached}
use Rattle.amqp.specs.States.{no_further}
use Rattle.unsettled.specs.declared.slot.Slot.{Slot}
use Rattle.unsettled.specs.Peers.{peers_of}
use Rattle.unsettled.specs.Tables.{look}
use Rattle.link.specs.declared.attach.Attach.{Attach}
use Rattle.link.specs.declared.delivery.Outcome.TheVariants.{State}
use Rattle.link.specs.declared.resumption.ResumingDelivery.{ResumingDelivery}
use Rattle.link.specs.declared.resumption.ResumingDelivery.TheVariants as item
use Rattle.link.specs.declared.resumption.Resumption.{Resumption}
use Rattle.link.specs.declared.resumption.Resumption.TheVariants.{Resend, Resume, Abort, RestateOutcome, End, Settle}
use Rattle.link.specs.Turns.{End as Ending}
use Rattle.link.specs.Views.{Entry}

-- what is known of a delivery here: nothing, a place that the receiver came to, or an outcome
pub data Ours : Type 0 where
  no_state : Ours
  part : Reached → Ours
  outcome : DeliveryState → Ours

-- what the peer says of it: it does not list it, it has a part of it, or an outcome
pub data Theirs : Type 0 where
  absent : Theirs
  has_part : Reached → Theirs
  has_outcome : DeliveryState → Theirs

abbrev pub ours : Option DeliveryState → Ours
ours None = no_state
ours (Some (Received p)) = part p
ours (Some Accepted) = outcome Accepted
ours (Some (Rejected e)) = outcome (Rejected e)
ours (Some Released) = outcome Released
ours (Some (Modified f u)) = outcome (Modified f u)

-- the start of a message: what a null state of the peer's means
abbrev pub beginning : Reached
beginning = record { section_number = 0; section_offset = 0 }

abbrev pub theirs : Option (Option DeliveryState) → Theirs
theirs None = absent
theirs (Some None) = has_part beginning
theirs (Some (Some (Received p))) = has_part p
theirs (Some (Some Accepted)) = has_outcome Accepted
theirs (Some (Some (Rejected e))) = has_outcome (Rejected e)
theirs (Some (Some Released)) = has_outcome Released
theirs (Some (Some (Modified f u))) = has_outcome (Modified f u)

-- a kind of outcome, whatever its condition or marks
abbrev pub same_kind : DeliveryState → DeliveryState → Bool
same_kind (Received p) s = false
same_kind Accepted (Received p) = false
same_kind Accepted Accepted = true
same_kind Accepted (Rejected e) = false
same_kind Accepted Released = false
same_kind Accepted (Modified f u) = false
same_kind (Rejected e) (Received p) = false
same_kind (Rejected e) Accepted = false
same_kind (Rejected e) (Rejected d) = true
same_kind (Rejected e) Released = false
same_kind (Rejected e) (Modified f u) = false
same_kind Released (Received p) = false
same_kind Released Accepted = false
same_kind Released (Rejected e) = false
same_kind Released Released = true
same_kind Released (Modified f u) = false
same_kind (Modified f u) (Received p) = false
same_kind (Modified f u) Accepted = false
same_kind (Modified f u) (Rejected e) = false
same_kind (Modified f u) Released = false
same_kind (Modified f u) (Modified g w) = true

-- one line for each cell of the table in docs/RULES.md; where the delivery ends and the peer lists it, the peer is told
abbrev pub decided : Ours → Theirs → Resumption
decided no_state absent = Resend
decided no_state (has_part p) = Resume p
decided no_state (has_outcome s) = Settle s
decided (part l) absent = Resend
decided (part l) (has_part p) = cond (no_further l p) (Resume p) Abort
decided (part l) (has_outcome s) = Settle s
decided (outcome o) absent = End o
decided (outcome o) (has_part p) = Abort
decided (outcome o) (has_outcome s) = cond (same_kind o s) (Settle o) RestateOutcome

abbrev pub resumption : Option DeliveryState → Option (Option DeliveryState) → Resumption
resumption local peer = decided (ours local) (theirs peer)

-- what is decided of an entry by what the peer's map says of its tag
abbrev pub judged_by : List (Slot (Option DeliveryState)) → Entry → Resumption
judged_by told e = resumption e.entry.state (look e.tag told)

abbrev pub judge : Attach → Entry → Resumption
judge a e = judged_by (peers_of a.unsettled.now) e

-- the item that joins the resume list
abbrev pub item_for : Resumption → Entry → List ResumingDelivery
item_for Resend e = item.Resend e ∷ []
item_for (Resume p) e = item.Resume e p ∷ []
item_for Abort e = item.Abort e ∷ []
item_for RestateOutcome e = item.RestateOutcome e ∷ []
item_for (End s) e = []
item_for (Settle s) e = item.Settling e.tag e.entry.message_format s ∷ []

abbrev pub item_of : Attach → Entry → List ResumingDelivery
item_of a e = item_for (judge a e) e

abbrev ending : Entry → DeliveryState → Ending
ending e s = record { number = e.entry.ticket; outcome = State s }

abbrev pub end_for : Resumption → Entry → List Ending
end_for Resend e = []
end_for (Resume p) e = []
end_for Abort e = []
end_for RestateOutcome e = []
end_for (End s) e = ending e s ∷ []
end_for (Settle s) e = ending e s ∷ []

abbrev pub end_of : Attach → Entry → List Ending
end_of a e = end_for (judge a e) e

-- the delivery of an item; a settling is none
abbrev pub delivery_of : ResumingDelivery → Option Entry
delivery_of (item.Resend e) = Some e
delivery_of (item.Resume e p) = Some e
delivery_of (item.Abort e) = Some e
delivery_of (item.RestateOutcome e) = Some e
delivery_of (item.Settling t f o) = None

-- the deliveries of a resume list, in order
abbrev pub listed : List ResumingDelivery → List Entry
listed is = filter_map delivery_of is

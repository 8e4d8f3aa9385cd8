-- Worked examples of credit, of splitting and of coming back, as one statement over their lists.
use Rattle.std.specs.Prelude.{◌≡◌, ℕ, max, cond, List, [], ◌∷◌, map, length, replicate, Some, None, Option}
use Rattle.std.specs.List.{AllByRecursion, flat_map}
use Rattle.amqp.specs.declared.state.DeliveryState.{DeliveryState}
use Rattle.amqp.specs.declared.state.DeliveryState.TheVariants.{Received, Accepted, Released}
use Rattle.amqp.specs.declared.state.Received.{Received as Reached}
use Rattle.amqp.specs.Headers.{measured}
use Rattle.amqp.specs.Tags.{tag_from, tag_of}
use Rattle.codec.specs.Headers.{compact_bytes, plain}
use Rattle.sections.specs.Sections.{start_of}
use Rattle.unsettled.specs.declared.peer.PeerDelivery.{PeerDelivery}
use Rattle.unsettled.specs.Peers.{peers_of}
use Rattle.sink.specs.Cuts.{frames_of, payload_of}
use Rattle.link.specs.declared.resumption.ResumingDelivery.TheVariants as item
use Rattle.link.specs.declared.resumption.Resumption.{Resumption}
use Rattle.link.specs.declared.resumption.Resumption.TheVariants.{Resend, Resume, Abort, RestateOutcome, End, Settle}
use Rattle.link.specs.Credit.{credit_after}
use Rattle.link.specs.Resuming.{resumption, judged_by, item_for}
use Rattle.link.specs.Sending.{share_of, narrow}
use Rattle.link.specs.Views.{Entry}

-- a flow that grants `credit`, seen from a link with these counts: the credit it leaves
pub record Grant : Type 0 where
  pub initial : ℕ
  pub count : ℕ
  pub seen : Option ℕ
  pub credit : ℕ
  pub gives : ℕ

abbrev pub Granted : Grant → Type 0
Granted g =
    credit_after (Some g.credit) g.seen (record { initial_delivery_count = g.initial; delivery_count = g.count; link_credit = 0 }) ≡ g.gives

abbrev pub grants : List Grant
grants =
    record { initial = 0; count = 20; seen = Some 10; credit = 10; gives = 0 } ∷ record { initial = 0; count = 20; seen = Some 10; credit = 11; gives = 1 }
    ∷ record { initial = 4294967290; count = 4294967290; seen = None; credit = 100; gives = 5 } ∷ []

-- a message of `len` bytes at a frame size, under a plain compact header: the payloads' lengths, or none where it is refused
pub record Sending : Type 0 where
  pub frame : ℕ
  pub len : ℕ
  pub parts : Option (List ℕ)

-- the size of the plain header: handle 0, a four-byte tag, format 0, unsettled
abbrev pub plain_size : ℕ
plain_size = measured compact_bytes (plain (tag_of 0))

abbrev pub lengths : (frame len : ℕ) → List ℕ
lengths frame len = map (λ f. length (payload_of f)) (frames_of (plain (tag_of 0)) 0 (max 1 (share_of frame plain_size)) (replicate len 0))

abbrev pub SplitAs : Sending → Type 0
SplitAs s = cond (narrow s.frame plain_size s.len) None (Some (lengths s.frame s.len)) ≡ s.parts

abbrev pub sendings : List Sending
sendings =
    record { frame = 512; len = 487; parts = Some (487 ∷ []) } ∷ record { frame = 512; len = 488; parts = Some (487 ∷ 1 ∷ []) }
    ∷ record { frame = 512; len = 974; parts = Some (487 ∷ 487 ∷ []) } ∷ record { frame = 25; len = 0; parts = Some (0 ∷ []) }
    ∷ record { frame = 25; len = 1; parts = None } ∷ record { frame = 24; len = 0; parts = None } ∷ record { frame = 24; len = 1; parts = None } ∷ []

-- ---- coming back

-- a data section with an array of one byte, 00 53 75 a0 01 41
abbrev pub six_bytes : List ℕ
six_bytes = 0x00 ∷ 0x53 ∷ 0x75 ∷ 0xa0 ∷ 0x01 ∷ 0x41 ∷ []

abbrev pub reached : (section offset : ℕ) → Reached
reached section offset = record { section_number = section; section_offset = offset }

-- where a place of the peer's is found in the six bytes, if it is
pub record Found : Type 0 where
  pub place : Reached
  pub at : Option ℕ

abbrev pub FoundAt : Found → Type 0
FoundAt f = start_of six_bytes f.place ≡ f.at

abbrev pub places : List Found
places =
    record { place = reached 0 3; at = Some 3 } ∷ record { place = reached 0 4; at = None } ∷ record { place = reached 1 0; at = None } ∷ []

-- our state of a delivery, the peer's if it lists it, and what is decided
pub record Meeting : Type 0 where
  pub ours : Option DeliveryState
  pub theirs : Option (Option DeliveryState)
  pub comes_to : Resumption

abbrev pub Decided : Meeting → Type 0
Decided m = resumption m.ours m.theirs ≡ m.comes_to

-- the receiver once told more than it now has; less, or nothing; a null state is the start; an outcome is told
abbrev pub meetings : List Meeting
meetings =
    record { ours = Some (Received (reached 1 5)); theirs = Some (Some (Received (reached 1 4))); comes_to = Abort }
    ∷ record { ours = Some (Received (reached 1 4)); theirs = Some (Some (Received (reached 1 5))); comes_to = Resume (reached 1 5) }
    ∷ record { ours = None; theirs = Some None; comes_to = Resume (reached 0 0) } ∷ record { ours = None; theirs = None; comes_to = Resend }
    ∷ record { ours = Some Accepted; theirs = None; comes_to = End Accepted } ∷ record { ours = Some Accepted; theirs = Some (Some Accepted); comes_to = Settle Accepted }
    ∷ record { ours = Some Accepted; theirs = Some (Some Released); comes_to = RestateOutcome } ∷ []

-- a pair of the peer's, with a tag of one byte and no state
abbrev pub pair : ℕ → PeerDelivery
pair b = record { tag = record { ref_ptr = (0, 0); now = b ∷ [] }; state = None }

abbrev pub ours : Entry
ours = record { tag = tag_from (0x61 ∷ []); entry = record { place = record { start = 0; len = 6 }; state = None; message_format = 0; ticket = 0 } }

pub record WorkedExamples : Type 0 where
  pub measures : plain_size ≡ 21
  pub credits : AllByRecursion Granted grants
  pub splits : AllByRecursion SplitAs sendings
  pub starts : AllByRecursion FoundAt places
  pub decisions : AllByRecursion Decided meetings
  -- the peer lists a, b and c, and ours is a: it alone is resumed
  pub leftovers : flat_map (λ e. item_for (judged_by (peers_of (pair 0x61 ∷ pair 0x62 ∷ pair 0x63 ∷ [])) e) e) (ours ∷ []) ≡ item.Resume ours (reached 0 0) ∷ []

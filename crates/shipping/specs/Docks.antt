-- A dock: its link and its sink, how a message goes out by them, and what becomes of it.
use Rattle.std.specs.Prelude.{◌≡◌, ℕ, suc, ◌*◌, ◌^◌, ◌≤◌, ◌⊎◌, min, max, true, false, List, [], length, replicate, Some, None, Ok, Err, Option, Result, ◌≢◌}
use Rattle.amqp.specs.declared.error.SendError.{SendError}
use Rattle.amqp.specs.declared.error.SendError.TheVariants.{NoCredit, OutsidePool, SinkFull}
use Rattle.amqp.specs.declared.error.TicketError.{TicketError}
use Rattle.amqp.specs.declared.error.TicketError.TheVariants.{NoSeat}
use Rattle.amqp.specs.declared.header.Header.{Header}
use Rattle.amqp.specs.declared.mode.SenderSettleMode.TheVariants.{Unsettled}
use Rattle.amqp.specs.declared.state.DeliveryState.{DeliveryState}
use Rattle.amqp.specs.declared.state.DeliveryState.TheVariants.{Accepted}
use Rattle.amqp.specs.declared.tag.DeliveryTag.{DeliveryTag}
use Rattle.sink.specs.Frames.{Model, empty}
use Rattle.link.specs.declared.delivery.Outcome.{Outcome}
use Rattle.link.specs.declared.delivery.Outcome.TheVariants.{State}
use Rattle.link.specs.declared.delivery.Sendable.{Sendable}
use Rattle.link.specs.declared.seat.Seat.TheVariants.{Free}
use Rattle.link.specs.Calls.{Disposition, Collect, Flow, step}
use Rattle.link.specs.Disposing.{looked}
use Rattle.link.specs.Sending.{carrier, next_number, next_tag, sent, sent_answer, share_for, frames_needed, send_refusal}
use Rattle.link.specs.Turns.{landed}
use Rattle.link.specs.Views.{View}
use Rattle.sender.specs.declared.ticket.Settlement.{Settlement}
use Rattle.sender.specs.Sends.{answered}
use Rattle.shipping.specs.declared.report.ShipError.{ShipError}
use Rattle.shipping.specs.declared.report.ShipError.TheVariants.{Refused, NoMemory, Link}
use Rattle.shipping.specs.declared.report.Shipment.{Shipment}
use Rattle.shipping.specs.Archives.{Intake, took_all, granting, Judged}
use Rattle.shipping.specs.Sections.{data_section}
use Rattle.shipping.specs.Unloading.{Emptied}

-- what is known of a dock: its link, the frames that wait, what its archive has taken in, and the credit granted at a time
pub record Docked : Type 0 where
  pub link : View
  pub sink : Model
  pub archive : Intake
  pub credit : ℕ

-- ---- room in the sink

-- twice as many places, and at least one, as far as a count of places goes
abbrev pub doubled : ℕ → ℕ
doubled n = max (min (n * 2) 18446744073709551615) 1

-- where nothing waited, a new sink with twice as many places as it had, or more
pub record Larger (s t : Model) : Type 0 where
  pub places : ℕ
  pub most : s.vacancy ≤ places
  pub new : t ≡ empty (doubled places) s.widest

-- the sink is read out, or made larger where nothing waited
pub record Roomier (s t : Model) : Type 0 where
  pub some : (length s.waiting ≡ 0 → ⊥) → Emptied s t
  pub none : length s.waiting ≡ 0 → Larger s t

-- ---- a message goes out

-- a message that is the whole pool
abbrev pub plain : (len : ℕ) → Sendable
plain len = record { place = record { start = 0; len = len }; message_format = 0; settled = None; state = None; batchable = false }

-- how many frames a message needs on a link, with an encoder that gives these bytes
abbrev pub frames_for : View → (Header → List ℕ) → List ℕ → ℕ
frames_for v bytes msg = frames_needed (share_for v (carrier bytes msg (empty 0 0)) (plain (length msg))) msg

-- from link `v` and sink `s`, a message was sent: the link is `w`, and the frames wait in the sink `t`
pub record Gone (v : View) (bytes : Header → List ℕ) (msg : List ℕ) (s : Model) (r : Settlement) (w : View) (t : Model) : Type 0 where
  pub answer : answered (Ok r) ≡ Ok (sent_answer v (plain (length msg)))
  pub link : w ≡ landed v (sent v (plain (length msg)))
  -- who reads the sink has the message, and its delivery's tag
  pub tag : (a : Intake) → (took_all t.waiting a).tag ≡ Some (next_tag v)
  pub whole : (a : Intake) → (took_all t.waiting a).joined ≡ msg
  pub frames : s.waiting ≡ [] → length t.waiting ≡ frames_for v bytes msg

-- the sink `t` is `s` with other room: as wide, stopped or not as before, and nothing waits where nothing did
pub record Roomed (s t : Model) : Type 0 where
  pub widest : t.widest ≡ s.widest
  pub stopped : t.stopped ≡ s.stopped
  pub waiting : s.waiting ≡ [] → t.waiting ≡ []

-- why a message did not go out: the link `w` and the sink `t`, which was `s`, refuse it, and never for want of room
pub record Unsent (w : View) (bytes : Header → List ℕ) (msg : List ℕ) (s : Model) (e : SendError) (t : Model) : Type 0 where
  pub sink : Roomed s t
  pub refusal : send_refusal w (carrier bytes msg t) (plain (length msg)) ≡ Some e
  pub room : e ≢ SinkFull

-- what a send came to: a refusal leaves the link as it was, and that refuses the message
abbrev pub Sending : View → (Header → List ℕ) → (msg : List ℕ) → Model → Result Settlement ShipError → View → Model → Type 0
Sending v bytes msg s (Ok r) w t = Gone v bytes msg s r w t
Sending v bytes msg s (Err (Refused e)) w t = (w ≡ v) × Unsent v bytes msg s e t
Sending v bytes msg s (Err NoMemory) w t = Unit {0}
Sending v bytes msg s (Err Link) w t = ⊥

-- the same link, but for its credit
pub record Alike (v w : View) : Type 0 where
  pub output : w.output ≡ v.output
  pub settings : w.settings ≡ v.settings
  pub number : next_number w ≡ next_number v
  pub held : w.held ≡ v.held
  pub seats : w.seats ≡ v.seats

-- the link where the archive, which has taken in `a`, has granted it this credit anew
abbrev pub regranted : View → (credit : ℕ) → Intake → View
regranted v credit a = step v (Flow (granting credit a))

-- the same from link `u`: that is `v`, or `v` with this credit granted anew by an archive that had taken in `intake`, which is `a` where
-- nothing waited before
pub record SendingAgain (v : View) (credit : ℕ) (a : Intake) (bytes : Header → List ℕ) (msg : List ℕ) (s : Model) (r : Result Settlement ShipError) (w : View) (t : Model) : Type 0 where
  pub u : View
  pub alike : Alike v u
  pub intake : Intake
  pub seen : s.waiting ≡ [] → intake ≡ a
  pub granted : (u ≡ v) ⊎ (u ≡ regranted v credit intake)
  -- no refusal is for want of credit before that
  pub anew : r ≡ Err (Refused NoCredit) → u ≡ regranted v credit intake
  pub sending : Sending u bytes msg s r w t

-- the archive answers for what it has taken in: by the tag, if it knows one
pub record Answered (a : Intake) (msg : List ℕ) (v w : View) : Type 0 where
  pub known : (t : DeliveryTag) → a.tag ≡ Some t → (s : DeliveryState) × Judged a.joined msg s × (w ≡ step v (Disposition t true (Some s)))
  pub unknown : a.tag ≡ None → w ≡ v

-- the archive has read the sink and answered, and then a ticket was collected
pub record Settled (v : View) (s : Model) (a : Intake) (msg : List ℕ) (number : ℕ) (told : Result (Option Outcome) TicketError) (w : View) (t : Model) : Type 0 where
  pub between : View
  pub answer : Answered (took_all s.waiting a) msg v between
  pub sink : Emptied s t
  pub ticket : told ≡ looked between number
  pub link : w ≡ step between (Collect number)

-- what that came to
abbrev pub Settling : View → Model → Intake → (msg : List ℕ) (number : ℕ) → Result Shipment ShipError → View → Model → Type 0
Settling v s a msg number (Ok p) w t = Settled v s a msg number (Ok p.progress) w t × (p.ticket ≡ number) × (p.frames ≡ length s.waiting)
Settling v s a msg number (Err (Refused e)) w t = ⊥
Settling v s a msg number (Err NoMemory) w t = Unit {0}
Settling v s a msg number (Err Link) w t = Settled v s a msg number (Err NoSeat) w t

-- ---- shipping

-- no delivery is under way: the link sends unsettled, its table is empty, its seats, one or more, are free, and nothing waits
pub record AtRest (v : View) (s : Model) : Type 0 where
  pub mode : v.settings.snd_settle_mode ≡ Unsettled
  pub table : v.held.table ≡ []
  pub spare : ℕ
  pub seats : v.seats ≡ replicate (suc spare) Free
  pub waiting : s.waiting ≡ []

-- a message was accepted at the other end, under the next ticket, in as many frames as it needs
pub record Shipped (v : View) (bytes : Header → List ℕ) (msg : List ℕ) (s : Shipment) : Type 0 where
  pub accepted : s.progress ≡ Some (State Accepted)
  pub ticket : s.ticket ≡ next_number v
  pub frames : s.frames ≡ frames_for v bytes msg

-- from link `v` and sink `s`, whose archive has taken in `a` and grants this credit, a message was refused: the link `w` and the sink
-- `t` that are left refuse it so. They are as before, but that the link may have been granted credit anew, and the sink may have other room
pub record TurnedAway (v : View) (credit : ℕ) (a : Intake) (bytes : Header → List ℕ) (msg : List ℕ) (s : Model) (e : SendError) (w : View) (t : Model) : Type 0 where
  pub alike : Alike v w
  pub granted : (w ≡ v) ⊎ (w ≡ regranted v credit a)
  -- no refusal is for want of credit before that
  pub anew : e ≡ NoCredit → w ≡ regranted v credit a
  pub unsent : Unsent w bytes msg s e t

-- what shipping a message comes to: all is at rest again, and a refusal is the link's or the sink's
abbrev pub Shipping : View → (credit : ℕ) → Intake → (Header → List ℕ) → (msg : List ℕ) → Model → Result Shipment ShipError → View → Model → Type 0
Shipping v credit a bytes msg s (Ok p) w t = Shipped v bytes msg p × AtRest w t
Shipping v credit a bytes msg s (Err (Refused e)) w t = TurnedAway v credit a bytes msg s e w t × AtRest w t
Shipping v credit a bytes msg s (Err NoMemory) w t = Unit {0}
Shipping v credit a bytes msg s (Err Link) w t = ⊥

-- no message holds the file, and nothing has changed
pub record TooLong (v : View) (file : List ℕ) (s : Model) (r : Result Shipment ShipError) (w : View) (t : Model) : Type 0 where
  pub long : 2 ^ 32 ≤ length file
  pub result : r ≡ Err (Refused OutsidePool)
  pub link : w ≡ v
  pub sink : t ≡ s

-- what shipping a file comes to: what shipping its section does, unless it is too long for one
abbrev pub ShippingFile : View → (credit : ℕ) → Intake → (Header → List ℕ) → (file : List ℕ) → Model → Result Shipment ShipError → View → Model → Type 0
ShippingFile v credit a bytes file s r w t = Shipping v credit a bytes (data_section file) s r w t ⊎ TooLong v file s r w t

-- What a message that was sent from rest comes to.
use Rattle.std.proofs.Common.{◌≡◌, ℕ, true, List, [], length, ◌⊎◌, inl, inr, Some, Ok, Err, Option, Result, sym, ap, ◌∙◌, subst, arith}
use Rattle.amqp.specs.declared.error.SendError.{SendError}
use Rattle.amqp.specs.declared.error.TicketError.{TicketError}
use Rattle.amqp.specs.declared.header.Header.{Header}
use Rattle.amqp.specs.declared.mode.SenderSettleMode.TheVariants.{Unsettled as never}
use Rattle.amqp.specs.declared.state.DeliveryState.{DeliveryState}
use Rattle.amqp.specs.declared.state.DeliveryState.TheVariants.{Accepted}
use Rattle.sink.specs.Frames.{Model}
use Rattle.link.specs.declared.delivery.Outcome.{Outcome}
use Rattle.link.specs.declared.delivery.Outcome.TheVariants.{State}
use Rattle.link.specs.Calls.{Disposition, Collect, step}
use Rattle.link.specs.Disposing.{looked}
use Rattle.link.specs.Sending.{next_number, next_tag, sent_answer}
use Rattle.link.specs.Views.{View, Held}
use Rattle.sender.specs.declared.ticket.Settlement.TheVariants.{Unsettled}
use Rattle.sender.specs.declared.ticket.Ticket.{Ticket}
use Rattle.sender.specs.Sends.{answered}
use Rattle.shipping.specs.declared.report.ShipError.{ShipError}
use Rattle.shipping.specs.declared.report.ShipError.TheVariants.{Refused, NoMemory, Link}
use Rattle.shipping.specs.declared.report.Shipment.{Shipment}
use Rattle.shipping.specs.Archives.{Intake}
use Rattle.shipping.specs.Docks.{plain, frames_for, Gone, Alike, regranted, SendingAgain, Settled, Settling, Unsent, AtRest, Shipping}
use Rattle.shipping.proofs.Rounds.{ended, round, tells_accepted, table_empty, seats_free, settings_kept}

-- a link that is like one at rest but for its credit
pub rests_alike : (v u : View) (s : Model) → AtRest v s → Alike v u → AtRest u s
rests_alike v u s h a =
    record {
      mode = ap (λ x. x.snd_settle_mode) a.settings ∙ h.mode;
      table = ap (λ (x : Held). x.table) a.held ∙ h.table;
      spare = h.spare;
      seats = a.seats ∙ h.seats;
      waiting = h.waiting;
    }

frames_alike : (v u : View) (bytes : Header → List ℕ) (msg : List ℕ) → Alike v u → frames_for u bytes msg ≡ frames_for v bytes msg
frames_alike v u bytes msg a = simp (a.output, a.settings, a.number)

-- an unsettled delivery has the next number
numbered : (u : View) (len : ℕ) (t : Ticket) → u.settings.snd_settle_mode ≡ never → answered (Ok (Unsettled t)) ≡ Ok (sent_answer u (plain len)) → t.number ≡ next_number u
numbered u len t mode h = let k = simp mode at h in cc

-- the archive has all of the message, so it accepts
between_is : (u : View) (bytes : Header → List ℕ) (msg : List ℕ) (s t t' : Model) (x : Ticket) (a : Intake) (told : Result (Option Outcome) TicketError) (w w' : View) → Gone u bytes msg s (Unsettled x) w t → (h : Settled w t a msg x.number told w' t') → h.between ≡ ended u (length msg)
between_is u bytes msg s t t' x a told w w' gone h =
    let known = h.answer.known (next_tag u) (gone.tag a) in
    let good = known.1.same (gone.whole a) in
    known.2
    ∙ ap (λ (y : DeliveryState). step w (Disposition (next_tag u) true (Some y))) good
    ∙ ap (λ (y : View). step y (Disposition (next_tag u) true (Some Accepted))) gone.link

told_is : (u : View) (bytes : Header → List ℕ) (msg : List ℕ) (s t t' : Model) (x : Ticket) (a : Intake) (told : Result (Option Outcome) TicketError) (w w' : View) → AtRest u s → Gone u bytes msg s (Unsettled x) w t → Settled w t a msg x.number told w' t' → told ≡ Ok (Some (State Accepted))
told_is u bytes msg s t t' x a told w w' rest gone h =
    h.ticket
    ∙ ap (λ (y : View). looked y x.number) (between_is u bytes msg s t t' x a told w w' gone h)
    ∙ ap (looked (ended u (length msg))) (numbered u (length msg) x rest.mode gone.answer)
    ∙ tells_accepted u (length msg) rest.spare rest.mode rest.table rest.seats

link_is : (u : View) (bytes : Header → List ℕ) (msg : List ℕ) (s t t' : Model) (x : Ticket) (a : Intake) (told : Result (Option Outcome) TicketError) (w w' : View) → AtRest u s → Gone u bytes msg s (Unsettled x) w t → Settled w t a msg x.number told w' t' → w' ≡ round u (length msg)
link_is u bytes msg s t t' x a told w w' rest gone h =
    h.link
    ∙ ap (λ (y : View). step y (Collect x.number)) (between_is u bytes msg s t t' x a told w w' gone h)
    ∙ ap (λ (n : ℕ). step (ended u (length msg)) (Collect n)) (numbered u (length msg) x rest.mode gone.answer)

-- and all is at rest again
rests_again : (u : View) (s : Model) (len : ℕ) (w : View) (t t' : Model) → AtRest u s → w ≡ round u len → t'.waiting ≡ [] → AtRest w t'
rests_again u s len w t t' h e n =
    record {
      mode = ap (λ (y : View). y.settings.snd_settle_mode) e ∙ ap (λ x. x.snd_settle_mode) (settings_kept u len h.mode h.table) ∙ h.mode;
      table = ap (λ (y : View). y.held.table) e ∙ table_empty u len h.spare h.mode h.table h.seats;
      spare = h.spare;
      seats = ap (λ (y : View). y.seats) e ∙ seats_free u len h.spare h.mode h.table h.seats;
      waiting = n;
    }

from_rest : (u : View) (credit : ℕ) (b : Intake) (bytes : Header → List ℕ) (msg : List ℕ) (s t t' : Model) (x : Ticket) (a : Intake) (r : Result Shipment ShipError) (w w' : View) → AtRest u s → Gone u bytes msg s (Unsettled x) w t → Settling w t a msg x.number r w' t' → Shipping u credit b bytes msg s r w' t'
from_rest u credit b bytes msg s t t' x a (Ok p) w w' rest gone h =
    let told = told_is u bytes msg s t t' x a (Ok p.progress) w w' rest gone h.0 in
    let link = link_is u bytes msg s t t' x a (Ok p.progress) w w' rest gone h.0 in (
      record {
        accepted = cc;
        ticket = h.1 ∙ numbered u (length msg) x rest.mode gone.answer;
        frames = h.2 ∙ gone.frames rest.waiting;
      },
      rests_again u s (length msg) w' t t' rest link h.0.sink.waiting,
    )
from_rest u credit b bytes msg s t t' x a (Err (Refused e)) w w' rest gone h = absurd h
from_rest u credit b bytes msg s t t' x a (Err NoMemory) w w' rest gone h = tt
from_rest u credit b bytes msg s t t' x a (Err Link) w w' rest gone h =
    let told = told_is u bytes msg s t t' x a _ w w' rest gone h in let z : ◌≡◌ {A = ℕ} 0 1 = cc in omega arith

alike_too : (v u : View) (credit : ℕ) (b : Intake) (bytes : Header → List ℕ) (msg : List ℕ) (s t t' : Model) (a : Intake) (number : ℕ) (r : Result Shipment ShipError) (w w' : View) → Alike v u → Settling w t a msg number r w' t' → Shipping u credit b bytes msg s r w' t' → Shipping v credit b bytes msg s r w' t'
alike_too v u credit b bytes msg s t t' a number (Ok p) w w' like g h =
    (record { accepted = h.0.accepted; ticket = h.0.ticket ∙ like.number; frames = h.0.frames ∙ frames_alike v u bytes msg like }, h.1)
alike_too v u credit b bytes msg s t t' a number (Err (Refused e)) w w' like g h = absurd g
alike_too v u credit b bytes msg s t t' a number (Err NoMemory) w w' like g h = tt
alike_too v u credit b bytes msg s t t' a number (Err Link) w w' like g h = h

pub shipped : (v u : View) (credit : ℕ) (b : Intake) (bytes : Header → List ℕ) (msg : List ℕ) (s t t' : Model) (x : Ticket) (a : Intake) (r : Result Shipment ShipError) (w w' : View) → AtRest v s → Alike v u → Gone u bytes msg s (Unsettled x) w t → Settling w t a msg x.number r w' t' → Shipping v credit b bytes msg s r w' t'
shipped v u credit b bytes msg s t t' x a r w w' rest like gone h =
    alike_too v u credit b bytes msg s t t' a x.number r w w' like h (from_rest u credit b bytes msg s t t' x a r w w' (rests_alike v u s rest like) gone h)

either_way : (v u w : View) (credit : ℕ) (i a : Intake) → w ≡ u → i ≡ a → (u ≡ v) ⊎ (u ≡ regranted v credit i) → (w ≡ v) ⊎ (w ≡ regranted v credit a)
either_way v u w credit i a e k (inl h) = inl (e ∙ h)
either_way v u w credit i a e k (inr h) = inr (e ∙ h ∙ ap (regranted v credit) k)

-- a message that was not sent
pub unshipped : (v : View) (credit : ℕ) (a : Intake) (bytes : Header → List ℕ) (msg : List ℕ) (s : Model) (e : ShipError) (w : View) (t : Model) → AtRest v s → SendingAgain v credit a bytes msg s (Err e) w t → Shipping v credit a bytes msg s (Err e) w t
unshipped v credit a bytes msg s (Refused e) w t rest h =
    let same = h.sending.0 in
    let like = subst (λ (x : View). Alike v x) (sym same) h.alike in
    let still = rests_alike v w s rest like in
    let seen = h.seen rest.waiting in (
      record {
        alike = like;
        granted = either_way v h.u w credit h.intake a same seen h.granted;
        anew = λ n. same ∙ h.anew (ap (λ (x : SendError). Err (Refused x)) n) ∙ ap (regranted v credit) seen;
        unsent = subst (λ (x : View). Unsent x bytes msg s e t) (sym same) h.sending.1;
      },
      record { mode = still.mode; table = still.table; spare = still.spare; seats = still.seats; waiting = h.sending.1.sink.waiting rest.waiting },
    )
unshipped v credit a bytes msg s NoMemory w t rest h = tt
unshipped v credit a bytes msg s Link w t rest h = absurd h.sending

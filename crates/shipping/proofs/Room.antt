-- A send that finds no room, and how the sink gets it.
use Rattle.std.proofs.Common.{◌≡◌, ℕ, ◌+◌, ◌-◌, ◌*◌, ◌<◌, ◌≤◌, min, max, Bool, true, false, cond, not, eqb, List, [], ◌∷◌, ◌++◌, length, Some, None, Err, Option, sym, refl, ap, ◌∙◌, subst, div-le_self, arith}
use Rattle.std.proofs.lemmas.Bool.{ltb-true, eqb-true, eqb-false}
use Rattle.std.proofs.lemmas.Bool.Decides.{nat_tests}
use Rattle.std.specs.Option.{option_map}
use Rattle.std.specs.List.{AllByRecursion}
use Rattle.amqp.specs.declared.error.LinkStateError.TheVariants.{IllegalState}
use Rattle.amqp.specs.declared.error.SendError.{SendError}
use Rattle.amqp.specs.declared.error.SendError.TheVariants as send
use Rattle.amqp.specs.declared.error.SinkError.{SinkError}
use Rattle.amqp.specs.declared.error.SinkError.TheVariants as sink
use Rattle.amqp.specs.declared.header.Header.{Header}
use Rattle.amqp.specs.declared.stop.SessionStopReason.{SessionStopReason}
use Rattle.amqp.specs.Refusals.{of_sink, send_number}
use Rattle.sink.specs.Cuts.{count_of, split_fault}
use Rattle.sink.specs.Frames.{Model, refused}
use Rattle.unsettled.specs.declared.message.Place.{Place}
use Rattle.unsettled.specs.Messages.{outside}
use Rattle.link.specs.declared.delivery.Sendable.{Sendable}
use Rattle.link.specs.Rows.{row, first}
use Rattle.link.specs.Sending.{Carrier, carrier, payload, goes_settled, size_for, share_for, frames_needed, next_tag, ready, busy, narrow, table_full, tag_there, no_seat, entry_rows, own_rows, send_refusal, sent_answer}
use Rattle.link.specs.Settings.{exceeds}
use Rattle.link.specs.Views.{View}
use Rattle.link.proofs.Rows.{first_alone, row_off, gated_err}
use Rattle.sender.specs.Sends.{Sends}
use Rattle.shipping.specs.Docks.{Roomier, Roomed, plain}
use Rattle.shipping.proofs.Sends.{all_of, stayed}

abbrev Other : Option SendError → Type 0
Other o = o ≡ Some send.SinkFull → ⊥

row_other : (test : Bool) (e : SendError) → eqb (send_number e) 16 ≡ false → Other (row test e)
row_other true e ne h = let same : e ≡ send.SinkFull = cc in eqb-false (send_number e) 16 ne (ap send_number same)
row_other false e ne h = let z : ◌≡◌ {A = ℕ} 0 1 = cc in omega arith

entry_others : (settled : Bool) (v : View) → AllByRecursion Other (cond settled [] (entry_rows v))
entry_others true v = tt
entry_others false v =
    (row_other (table_full v) send.TableFull refl, (row_other (tag_there (next_tag v) v) send.TagInTable refl, (row_other (no_seat v) send.NoSeat refl, tt)))

-- no refusal of the link itself is for want of room
own_others : (v : View) (c : Carrier) (m : Sendable) → AllByRecursion Other (own_rows v c m)
own_others v c m = (
  row_other (not (ready v)) (send.LinkState IllegalState) refl,
  (
    row_other (busy v) send.ListsNotEmpty refl,
    (
      row_other (outside m.place (length c.pool)) send.OutsidePool refl,
      (
        row_other (exceeds v.settings.max_message_size m.place.len) send.MessageSizeExceeded refl,
        (
          row_other (eqb v.flow.link_credit 0) send.NoCredit refl,
          (
            row_other (narrow v.settings.max_frame_size (size_for v c m) m.place.len) send.FrameTooSmall refl,
            entry_others (goes_settled v m) v,
          ),
        ),
      ),
    ),
  ),
)

-- so the link refused nothing, and the sink did
past : (xs : List (Option SendError)) (o : Option SendError) → AllByRecursion Other xs → first (xs ++ o ∷ []) ≡ Some send.SinkFull → AllByRecursion (λ x. x ≡ None) xs × (o ≡ Some send.SinkFull)
past [] o h e = (tt, sym (first_alone o) ∙ e)
past (None ∷ xs) o h e = let rest = past xs o h.1 e in ((refl, rest.0), rest.1)
past (Some x ∷ xs) o h e = absurd (h.0 e)

from_sink : (o : Option SinkError) → option_map of_sink o ≡ Some send.SinkFull → o ≡ Some sink.SinkFull
from_sink None h = let z : ◌≡◌ {A = ℕ} 0 1 = cc in absurd (omega arith)
from_sink (Some (sink.SessionStopped r)) h = let z : ◌≡◌ {A = ℕ} 0 1 = cc in absurd (omega arith)
from_sink (Some sink.PayloadTooWide) h = let z : ◌≡◌ {A = ℕ} 0 1 = cc in absurd (omega arith)
from_sink (Some sink.SinkFull) h = refl

too_few : (stop : Option SessionStopReason) (wide few : Bool) → refused stop wide few ≡ Some sink.SinkFull → few ≡ true
too_few (Some r) wide few h = let z : ◌≡◌ {A = ℕ} 0 1 = cc in absurd (omega arith)
too_few None true few h = let z : ◌≡◌ {A = ℕ} 0 1 = cc in absurd (omega arith)
too_few None false true h = refl
too_few None false false h = let z : ◌≡◌ {A = ℕ} 0 1 = cc in absurd (omega arith)

not_stopped : (stop : Option SessionStopReason) (wide few : Bool) → refused stop wide few ≡ Some sink.SinkFull → stop ≡ None
not_stopped (Some r) wide few h = let z : ◌≡◌ {A = ℕ} 0 1 = cc in absurd (omega arith)
not_stopped None wide few h = refl

in_pool : (p : Place) (n : ℕ) → outside p n ≡ false → n ≤ 67108864
in_pool p n h = grind (arith, nat_tests)

-- a send that finds no room needs more frames than there are free places; its message is in a pool, which is never long
lacks : (v : View) (c : Carrier) (m : Sendable) → send_refusal v c m ≡ Some send.SinkFull → (c.sink.vacancy < frames_needed (share_for v c m) (payload c m)) × (length c.pool ≤ 67108864)
lacks v c m h =
    let cause = past (own_rows v c m) _ (own_others v c m) h in
    let fault = from_sink (split_fault c.sink (payload c m) (max 1 (share_for v c m))) cause.1 in
    let inside = row_off (outside m.place (length c.pool)) send.OutsidePool cause.0.1.1.0 in
    (ltb-true _ _ (too_few c.sink.stopped _ _ fault), in_pool m.place (length c.pool) inside)

-- no message needs more frames than it has bytes, or one
needs_at_most : (len share : ℕ) → count_of len share ≤ max 1 len
needs_at_most len share = omega (arith, div-le_self (len - 1) share)

-- how far a sink is from room for a message of `len` bytes: the places that it lacks, and then whether something waits
abbrev pub hunger : (len : ℕ) → Model → ℕ
hunger len m = 2 * (len + 1 - m.vacancy) + min 1 (length m.waiting)

less_hungry : (len : ℕ) (s t : Model) (share : ℕ) → Roomier s t → s.vacancy < count_of len share → len ≤ 67108864 → hunger len t < hunger len s
less_hungry len s t share r few fits = by (eqb (length s.waiting) 0) refl
  where
    by : (b : Bool) → eqb (length s.waiting) 0 ≡ b → hunger len t < hunger len s
    by true e =
        let l = r.none (eqb-true (length s.waiting) 0 e) in
        omega (arith, needs_at_most len share, l.most, ap (λ (m : Model). m.vacancy) l.new, ap (λ (m : Model). length m.waiting) l.new)
    by false e =
        let some = eqb-false (length s.waiting) 0 e in
        let l = r.some some in
        omega (arith, needs_at_most len share, some, l.vacancy, ap length l.waiting)

-- a sink that was given room: nothing waits in it, and if it is not stopped it stays as it is but for its room
record Given (s t : Model) : Type 0 where
  pub waiting : t.waiting ≡ []
  pub widest : t.widest ≡ s.widest
  pub stopped : s.stopped ≡ None → t.stopped ≡ s.stopped

given : (s t : Model) → Roomier s t → Given s t
given s t r = by (eqb (length s.waiting) 0) refl
  where
    by : (b : Bool) → eqb (length s.waiting) 0 ≡ b → Given s t
    by true e =
        let l = r.none (eqb-true (length s.waiting) 0 e) in
        record { waiting = ap (λ (m : Model). m.waiting) l.new; widest = ap (λ (m : Model). m.widest) l.new; stopped = λ running. ap (λ (m : Model). m.stopped) l.new ∙ sym running }
    by false e =
        let l = r.some (eqb-false (length s.waiting) 0 e) in
        record { waiting = l.waiting; widest = l.widest; stopped = λ _. l.stopped }

pub roomier_none : (s t : Model) → Roomier s t → t.waiting ≡ []
roomier_none s t r = (given s t r).waiting

pub room_made : (s t : Model) → s.stopped ≡ None → Roomier s t → Roomed s t
room_made s t running r = let g = given s t r in record { widest = g.widest; stopped = g.stopped running; waiting = λ _. g.waiting }

-- a sink that had no room for a message comes nearer to it
pub fed : (v : View) (bytes : Header → List ℕ) (msg : List ℕ) (s : Model) (e : SendError) (w : View) (t t' : Model) → e ≡ send.SinkFull → Sends v (carrier bytes msg s) (plain (length msg)) (Err e) w t → Roomier t t' → hunger (length msg) t' < hunger (length msg) s
fed v bytes msg s e w t t' full h r =
    let c = carrier bytes msg s in
    let m = plain (length msg) in
    let some = gated_err (send_refusal v c m) (sent_answer v m) e h.answer in
    let lack = lacks v c m (some ∙ ap (λ (x : SendError). Some x) full) in
    let kept = (stayed v c m e w t h).1 in
    let few : s.vacancy < count_of (length msg) (max 1 (share_for v c m)) = rw (all_of msg) at lack.0 in
    less_hungry (length msg) s t' (max 1 (share_for v c m)) (subst (λ (x : Model). Roomier x t') kept r) few lack.1

-- a stopped sink is refused for that, and not for want of room
pub was_running : (v : View) (bytes : Header → List ℕ) (msg : List ℕ) (s : Model) (e : SendError) (w : View) (t : Model) → e ≡ send.SinkFull → Sends v (carrier bytes msg s) (plain (length msg)) (Err e) w t → s.stopped ≡ None
was_running v bytes msg s e w t full h =
    let c = carrier bytes msg s in
    let m = plain (length msg) in
    let some = gated_err (send_refusal v c m) (sent_answer v m) e h.answer in
    let cause = past (own_rows v c m) _ (own_others v c m) (some ∙ ap (λ (x : SendError). Some x) full) in
    not_stopped s.stopped _ _ (from_sink (split_fault s (payload c m) (max 1 (share_for v c m))) cause.1)

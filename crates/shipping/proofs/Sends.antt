-- What a send of the link means to the dock.
use Rattle.std.proofs.Common.{◌≡◌, ℕ, max, inl, List, [], ◌++◌, length, take, drop, Some, None, Ok, Err, Option, Result, refl, sym, ap, ◌∙◌, subst, arith}
use Rattle.std.specs.Option.{unwrap_or}
use Rattle.std.proofs.lemmas.List.FromFn.{length-map-range_with_len}
use Rattle.std.proofs.lemmas.List.{take_all}
use Rattle.amqp.specs.declared.error.SendError.{SendError}
use Rattle.amqp.specs.declared.error.SendError.TheVariants.{NoCredit, SinkFull}
use Rattle.amqp.specs.declared.header.Header.{Header}
use Rattle.sink.specs.Cuts.{frame_at}
use Rattle.sink.specs.Frames.{Frame, Model, Grown, After}
use Rattle.link.specs.declared.delivery.Sendable.{Sendable}
use Rattle.link.specs.Calls.{Flow, step}
use Rattle.link.specs.Rows.{gated, unless, Accepted}
use Rattle.link.specs.Sending.{Carrier, carrier, Sent, payload, next_number, transfer_of, share_for, frames_needed, send_refusal, sent_answer, sent, sent_frames}
use Rattle.link.specs.Turns.{landed, stay}
use Rattle.link.specs.Views.{View}
use Rattle.link.proofs.Rows.{gated_err, gated_ok}
use Rattle.sender.specs.declared.ticket.Settlement.{Settlement}
use Rattle.sender.specs.declared.ticket.Settlement.TheVariants as settlement
use Rattle.sender.specs.Sends.{Sends, answered}
use Rattle.shipping.specs.declared.report.ShipError.{ShipError}
use Rattle.shipping.specs.declared.report.ShipError.TheVariants.{Refused, NoMemory, Link}
use Rattle.shipping.specs.Archives.{Intake, took_all, granting}
use Rattle.shipping.specs.Docks.{plain, Gone, Roomed, Unsent, Sending, Alike, SendingAgain}
use Rattle.shipping.proofs.Frames.{took_append, read_whole}

-- an answer that is no error was not refused
not_refused : (r : Settlement) (o : Option SendError) (x : Sent) → answered (Ok r) ≡ gated o x → o ≡ None
not_refused (settlement.Settled tag) o x h = (gated_ok o x _ h).0
not_refused (settlement.Unsettled t) o x h = (gated_ok o x _ h).0

grown : (o : Option SendError) (a b : Model) (fs : List Frame) (n : ℕ) → o ≡ None → After o a b fs n → Grown a b fs n
grown None a b fs n e h = h
grown (Some x) a b fs n e h = let z : ◌≡◌ {A = ℕ} 0 1 = cc in absurd (omega arith)

carries : (o : Option SendError) (P : Type 0) → o ≡ None → Accepted o P → P
carries None P e h = h
carries (Some x) P e h = let z : ◌≡◌ {A = ℕ} 0 1 = cc in absurd (omega arith)

unchanged : (o : Option SendError) (e : SendError) (a b : Model) (fs : List Frame) (n : ℕ) → o ≡ Some e → After o a b fs n → b ≡ a
unchanged None e a b fs n h k = let z : ◌≡◌ {A = ℕ} 0 1 = cc in absurd (omega arith)
unchanged (Some x) e a b fs n h k = k

-- the whole pool
pub all_of : (msg : List ℕ) → take (length msg) (drop 0 msg) ≡ msg
all_of msg = take_all (length msg) msg (omega arith)

-- a send that was accepted
pub gone : (v : View) (bytes : Header → List ℕ) (msg : List ℕ) (s : Model) (r : Settlement) (w : View) (t : Model) → Sends v (carrier bytes msg s) (plain (length msg)) (Ok r) w t → Gone v bytes msg s r w t
gone v bytes msg s r w t h =
    let c = carrier bytes msg s in
    let m = plain (length msg) in
    let none = not_refused r (send_refusal v c m) (sent_answer v m) h.answer in
    let put = (grown (send_refusal v c m) s t (sent_frames v c m) (frames_needed (share_for v c m) (payload c m)) none h.sink).waiting in
    let whole = (carries (send_refusal v c m) _ none h.carries).whole in
    let read : (a : Intake) → took_all t.waiting a ≡ took_all (sent_frames v c m) (took_all s.waiting a) = λ a. ap (λ fs. took_all fs a) put ∙ took_append s.waiting (sent_frames v c m) a in
    let made : (a : Intake) → took_all (sent_frames v c m) (took_all s.waiting a) ≡ _ = λ a. read_whole (transfer_of v m) (unwrap_or v.input 0) (max 1 (share_for v c m)) (payload c m) (took_all s.waiting a) in
    record {
      answer = h.answer ∙ ap (λ (o : Option SendError). gated o (sent_answer v m)) none;
      link = h.link ∙ ap (λ (o : Option SendError). landed v (unless o (stay v) (sent v m))) none;
      tag = λ a. ap (λ (x : Intake). x.tag) (read a ∙ made a);
      whole = λ a. ap (λ (x : Intake). x.joined) (read a ∙ made a) ∙ whole ∙ all_of msg;
      frames = λ e. ap length (put ∙ ap (λ (fs : List Frame). fs ++ sent_frames v c m) e) ∙ length-map-range_with_len (frame_at (transfer_of v m) (unwrap_or v.input 0) (max 1 (share_for v c m)) (frames_needed (share_for v c m) (payload c m)) (payload c m)) 0 (frames_needed (share_for v c m) (payload c m)) ∙ ap (λ (xs : List ℕ). frames_needed (share_for v c m) xs) (all_of msg);
    }

-- the same, where the link waited for room
pub gone_later : (v v' : View) (bytes : Header → List ℕ) (msg : List ℕ) (s s' : Model) (r : Settlement) (w : View) (t : Model) → v' ≡ v → (s.waiting ≡ [] → s'.waiting ≡ []) → Sends v' (carrier bytes msg s') (plain (length msg)) (Ok r) w t → Gone v bytes msg s r w t
gone_later v v' bytes msg s s' r w t e k h =
    let g = subst (λ (x : View). Gone x bytes msg s' r w t) e (gone v' bytes msg s' r w t h) in
    record { answer = g.answer; link = g.link; tag = g.tag; whole = g.whole; frames = λ n. g.frames (k n) }

-- a send that was refused leaves the link and the sink as they were
pub stayed : (v : View) (c : Carrier) (m : Sendable) (e : SendError) (w : View) (t : Model) → Sends v c m (Err e) w t → (w ≡ v) × (t ≡ c.sink)
stayed v c m e w t h =
    let some = gated_err (send_refusal v c m) (sent_answer v m) e h.answer in (
      h.link ∙ ap (λ (o : Option SendError). landed v (unless o (stay v) (sent v m))) some,
      unchanged (send_refusal v c m) e c.sink t (sent_frames v c m) (frames_needed (share_for v c m) (payload c m)) some h.sink,
    )

-- the same, where the link waited for room
pub unsent_later : (v v' : View) (bytes : Header → List ℕ) (msg : List ℕ) (s s' : Model) (e : SendError) (w : View) (t : Model) → v' ≡ v → Roomed s s' → (e ≡ SinkFull → ⊥) → Sends v' (carrier bytes msg s') (plain (length msg)) (Err e) w t → (w ≡ v) × Unsent v bytes msg s e t
unsent_later v v' bytes msg s s' e w t same room other h =
    let c = carrier bytes msg s' in
    let m = plain (length msg) in
    let kept = stayed v' c m e w t h in
    let some = gated_err (send_refusal v' c m) (sent_answer v' m) e h.answer in (
      kept.0 ∙ same,
      record {
        sink = record {
          widest = ap (λ (x : Model). x.widest) kept.1 ∙ room.widest;
          stopped = ap (λ (x : Model). x.stopped) kept.1 ∙ room.stopped;
          waiting = λ n. ap (λ (x : Model). x.waiting) kept.1 ∙ room.waiting n;
        };
        refusal = ap (λ (x : Model). send_refusal v (carrier bytes msg x) m) kept.1 ∙ ap (λ (x : View). send_refusal x c m) (sym same) ∙ some;
        room = other;
      },
    )

roomed_on : (s s' t : Model) → Roomed s s' → Roomed s' t → Roomed s t
roomed_on s s' t a b = record { widest = b.widest ∙ a.widest; stopped = b.stopped ∙ a.stopped; waiting = λ n. b.waiting (a.waiting n) }

-- what holds of a sink with other room holds of the sink before
pub sending_later : (u : View) (bytes : Header → List ℕ) (msg : List ℕ) (s s' : Model) (r : Result Settlement ShipError) (w : View) (t : Model) → Roomed s s' → Sending u bytes msg s' r w t → Sending u bytes msg s r w t
sending_later u bytes msg s s' (Ok x) w t k h = record { answer = h.answer; link = h.link; tag = h.tag; whole = h.whole; frames = λ n. h.frames (k.waiting n) }
sending_later u bytes msg s s' (Err (Refused e)) w t k h =
    (h.0, record { sink = roomed_on s s' t k h.1.sink; refusal = h.1.refusal; room = h.1.room })
sending_later u bytes msg s s' (Err NoMemory) w t k h = tt
sending_later u bytes msg s s' (Err Link) w t k h = h

pub alike : (v : View) → Alike v v
alike v = record { output = refl; settings = refl; number = refl; held = refl; seats = refl }

-- a flow without a drain changes only the credit
pub alike_regranted : (v w : View) (credit : ℕ) (a : Intake) → w ≡ step v (Flow (granting credit a)) → Alike v w
alike_regranted v w credit a e =
    record {
      output = ap (λ (x : View). x.output) e;
      settings = ap (λ (x : View). x.settings) e;
      number = ap next_number e;
      held = ap (λ (x : View). x.held) e;
      seats = ap (λ (x : View). x.seats) e;
    }

-- a link that had credit
pub first_try : (v : View) (credit : ℕ) (a : Intake) (bytes : Header → List ℕ) (msg : List ℕ) (s : Model) (r : Result Settlement ShipError) (w : View) (t : Model) → (r ≡ Err (Refused NoCredit) → ⊥) → Sending v bytes msg s r w t → SendingAgain v credit a bytes msg s r w t
first_try v credit a bytes msg s r w t other h =
    record { u = v; alike = alike v; intake = a; seen = λ _. refl; granted = inl refl; anew = λ n. absurd (other n); sending = h }

pub first_refused : (v : View) (credit : ℕ) (a : Intake) (bytes : Header → List ℕ) (msg : List ℕ) (s : Model) (e : ShipError) (w : View) (t : Model) → (e ≡ Refused NoCredit → ⊥) → Sending v bytes msg s (Err e) w t → SendingAgain v credit a bytes msg s (Err e) w t
first_refused v credit a bytes msg s e w t other h = first_try v credit a bytes msg s (Err e) w t (λ n. other (cc)) h

-- a refusal left the link as it was
pub kept_back : (v : View) (bytes : Header → List ℕ) (msg : List ℕ) (s : Model) (e : ShipError) (x : SendError) (w : View) (t : Model) → e ≡ Refused x → Sending v bytes msg s (Err e) w t → (w ≡ v) × Roomed s t
kept_back v bytes msg s e x w t is h =
    let k = subst (λ (y : ShipError). Sending v bytes msg s (Err y) w t) is h in (k.0, k.1.sink)

-- What may be sent, what a send carries, and the two halves of a send joined.
use Rattle.std.proofs.Common.{◌≡◌, ℕ, List, true, false, eqb, length, [], ◌∷◌, Some, None, Err, Option, Result, sym, refl, ap, ◌∙◌, subst}
use Rattle.amqp.specs.declared.error.SendError.{SendError}
use Rattle.amqp.specs.declared.header.Header.{Header}
use Rattle.sink.specs.Frames.{Model, After}
use Rattle.link.specs.declared.delivery.Sendable.{Sendable}
use Rattle.link.specs.Calls.{Send, step}
use Rattle.link.specs.Rows.{first, gated, unless, Accepted}
use Rattle.unsettled.specs.Messages.{outside}
use Rattle.link.specs.Settings.{exceeds}
use Rattle.link.specs.Sending.{Carrier, carrier, Sent, payload, share_for, size_for, goes_settled, narrow, ready, busy, entry_rows, own_rows, sink_row, send_refusal, answer_as, send_answer, sent_answer, sent, sent_as, cut, frames_needed, sent_frames}
use Rattle.link.specs.Turns.{Turn, landed, stay}
use Rattle.link.specs.Views.{View}
use Rattle.link.proofs.Rows.{first_some, first_none, first_alone, after_same, accepted_not, gated_err}
use Rattle.sender.specs.declared.sender_link.send.Plan.{Plan}
use Rattle.sender.specs.Sends.{blind, addable, planned, plan_of}

-- ---- from the two halves of a send to the whole

refused : (v : View) (c : Carrier) (m : Sendable) (e : SendError) → first (own_rows v c m) ≡ Some e → send_refusal v c m ≡ Some e
refused v c m e h = first_some (own_rows v c m) (sink_row c.sink (share_for v c m) (payload c m) ∷ []) e h

pub refused_answer : (v : View) (c : Carrier) (m : Sendable) (e : SendError) → first (own_rows v c m) ≡ Some e → Err e ≡ send_answer v c m
refused_answer v c m e h = sym (ap (λ o. gated o (sent_answer v m)) (refused v c m e h))

pub refused_link : (v : View) (c : Carrier) (m : Sendable) (e : SendError) → first (own_rows v c m) ≡ Some e → v ≡ step v (Send c m)
refused_link v c m e h = sym (ap (λ o. landed v (unless o (stay v) (sent v m))) (refused v c m e h))

pub refused_sink : (v : View) (c : Carrier) (m : Sendable) (e : SendError) → first (own_rows v c m) ≡ Some e → After (send_refusal v c m) c.sink c.sink (sent_frames v c m) (frames_needed (share_for v c m) (payload c m))
refused_sink v c m e h = after_same (send_refusal v c m) e c.sink (sent_frames v c m) (frames_needed (share_for v c m) (payload c m)) (refused v c m e h)

pub refused_carries : (v : View) (c : Carrier) (m : Sendable) (e : SendError) (P : Type 0) → first (own_rows v c m) ≡ Some e → Accepted (send_refusal v c m) P
refused_carries v c m e P h = accepted_not (send_refusal v c m) e P (refused v c m e h)

-- where the link refuses nothing, the sink decides
by_sink : (v : View) (c : Carrier) (m : Sendable) → first (own_rows v c m) ≡ None → sink_row c.sink (share_for v c m) (payload c m) ≡ send_refusal v c m
by_sink v c m n =
    let r = sink_row c.sink (share_for v c m) (payload c m) in
    sym (first_none (own_rows v c m) (r ∷ []) n ∙ first_alone r)

pub whole_answer : (v : View) (c : Carrier) (m : Sendable) (p : Plan) (r : Result Sent SendError) → p ≡ plan_of v c m → first (own_rows v c m) ≡ None → r ≡ gated (sink_row c.sink p.share (payload c m)) (answer_as p.settled v) → r ≡ send_answer v c m
whole_answer v c m p r e n h =
    h ∙ ap (λ q. gated (sink_row c.sink q.share (payload c m)) (answer_as q.settled v)) e ∙ ap (λ o. gated o (sent_answer v m)) (by_sink v c m n)

-- a turn that a refusal may stop
unless_landed : {E : Type 0} (o : Option E) (v : View) (t : Turn) → unless o v (landed v t) ≡ landed v (unless o (stay v) t)
unless_landed None v t = refl
unless_landed (Some e) v t = refl

pub whole_link : (v : View) (c : Carrier) (m : Sendable) (p : Plan) (w : View) → p ≡ plan_of v c m → first (own_rows v c m) ≡ None → w ≡ unless (sink_row c.sink p.share (payload c m)) v (landed v (sent_as p.settled v m)) → w ≡ step v (Send c m)
whole_link v c m p w e n h =
    h ∙ ap (λ q. unless (sink_row c.sink q.share (payload c m)) v (landed v (sent_as q.settled v m))) e
    ∙ ap (λ o. unless o v (landed v (sent v m))) (by_sink v c m n) ∙ unless_landed (send_refusal v c m) v (sent v m)

pub whole_sink : (v : View) (c : Carrier) (m : Sendable) (p : Plan) (t : Model) → p ≡ plan_of v c m → first (own_rows v c m) ≡ None → After (sink_row c.sink p.share (payload c m)) c.sink t (cut v p.transfer p.share (payload c m)) (frames_needed p.share (payload c m)) → After (send_refusal v c m) c.sink t (sent_frames v c m) (frames_needed (share_for v c m) (payload c m))
whole_sink v c m p t e n h =
    let P : Plan → Type 0 = λ q. After (sink_row c.sink q.share (payload c m)) c.sink t (cut v q.transfer q.share (payload c m)) (frames_needed q.share (payload c m)) in
    let Q : Option SendError → Type 0 = λ o. After o c.sink t (sent_frames v c m) (frames_needed (share_for v c m) (payload c m)) in
    subst Q (by_sink v c m n) (subst P e h)

-- a carrier whose sink no plan looks at
abbrev pub blind_carrier : (Header → List ℕ) → List ℕ → Carrier
blind_carrier bytes pool = carrier bytes pool blind

-- where no row before it refuses, what is refused of the entry is refused of the message
pub by_entry : (v : View) (c : Carrier) (m : Sendable) (e : SendError) → ready v ≡ true → busy v ≡ false → outside m.place (length c.pool) ≡ false → exceeds v.settings.max_message_size m.place.len ≡ false
    → eqb v.flow.link_credit 0 ≡ false → narrow v.settings.max_frame_size (size_for v c m) m.place.len ≡ false → goes_settled v m ≡ false → ◌≡◌ {A = Result (Unit {0}) SendError} (Err e) (addable v)
    → Err e ≡ planned v c.bytes c.pool m
by_entry v c m e r b o x k n g h = rw (r, b, o, x, k, n, g, gated_err (first (entry_rows v)) tt e h) refl

-- What a call puts is what it ought to put.
use Rattle.std.proofs.Common.{◌≡◌, ℕ, zero, suc, ◌+◌, ◌-◌, ◌*◌, ◌/◌, ◌≤◌, min, max, Bool, true, false, not, ltb, List, [], ◌∷◌, map, length, drop, is_some, Some, None, Option, sym, refl, ap, ◌∙◌, subst, true≢false, add-one, arith}
use Rattle.std.specs.List.{AllByRecursion, range_with_len}
use Rattle.std.specs.Option.{unwrap_or}
use Rattle.std.proofs.lemmas.List.{length-take, length-drop}
use Rattle.std.proofs.lemmas.Bool.{lt-ltb, le-ltb}
use Rattle.amqp.specs.declared.error.LinkStateError.TheVariants.{IllegalState}
use Rattle.amqp.specs.declared.error.SendError.TheVariants as fault
use Rattle.amqp.specs.declared.header.FrameKind.{FrameKind}
use Rattle.amqp.specs.declared.header.FrameKind.TheVariants.{First, Continuation}
use Rattle.amqp.specs.declared.header.Transfer.{Transfer}
use Rattle.amqp.specs.Headers.{measured}
use Rattle.sink.specs.Cuts.{count_of, kind_at, part, frame_at, frames_of}
use Rattle.sink.specs.Frames.{Frame}
use Rattle.sink.proofs.Cutting.{whole, part_fits, carried}
use Rattle.unsettled.specs.declared.message.Place.{Place}
use Rattle.unsettled.specs.Messages.{outside}
use Rattle.link.specs.declared.delivery.Sendable.{Sendable}
use Rattle.link.specs.declared.resumption.ResumingDelivery.{ResumingDelivery}
use Rattle.link.specs.declared.resumption.ResumingDelivery.TheVariants as item
use Rattle.link.specs.declared.resumption.Task.{Task}
use Rattle.link.specs.Calls.{Call, Open, Attach, Flow, Send, Disposition, Dispose, Work, Resend, Detach, Look, Collect, refused, put_by}
use Rattle.link.specs.Disposing.{dispose_refusal, disposed_frames}
use Rattle.link.specs.Resending.{again, again_rows, again_frames, resend_refusal, resent_frames}
use Rattle.link.specs.Rows.{row, unless}
use Rattle.link.specs.Sending.{Carrier, message, none_left, ready, transfer_of, share_by, narrow, size_for, cut, send_refusal, sent_frames}
use Rattle.link.specs.Views.{View, Entry}
use Rattle.link.specs.Working.{start_in, resume_task, restate_task, abort_task, settling_task, working, task_payload, task_frames, task_rows, item_rows, item_frames, work_refusal, worked_frames}
use Rattle.link.proofs.Rows.{all_none, row_off}
use Rattle.link.proofs.Working.{past_is}
use Rattle.link.proofs.Sending.{clear, own_clear, place_clear, fits_clear, length_message}
use Rattle.runs.specs.Frames.{carrying, Laid, PutsTransfer, WorkPuts, ResendPuts, GoesOut, PutsRight}

-- frame i is one of the transfer, with `more` set or not
framed : (t : Transfer) (handle share count : ℕ) (msg : List ℕ) (i : ℕ) (more : Bool) → ltb (i + 1) count ≡ more
    → frame_at t handle share count msg i ≡ carrying (kind_at i) handle t more (part msg share i)
framed t handle share count msg zero more e = ap (λ b. carrying First handle t b (part msg share zero)) e
framed t handle share count msg (suc i) more e = ap (λ b. carrying Continuation handle t b (part msg share (suc i))) e

full_part : (msg : List ℕ) (share i : ℕ) → i * share + share ≤ length msg → length (part msg share i) ≡ share
full_part msg share i h = omega (arith, length-take share (drop (i * share) msg), length-drop (i * share) msg)

laid_from : (t : Transfer) (handle share count : ℕ) (msg : List ℕ) → count ≡ count_of (length msg) share → (k i : ℕ) → i + suc k ≡ count
    → Laid t handle share (kind_at i) (map (frame_at t handle share count msg) (range_with_len i (suc k)))
laid_from t handle share count msg c zero i e =
    (framed t handle share count msg i false (le-ltb (i + 1) count (omega arith)), omega (arith, part_fits msg share i))
laid_from t handle share count msg c (suc k) i e = (
  framed t handle share count msg i true (lt-ltb (i + 1) count (omega arith)),
  full_part msg share i (whole (length msg) share i (omega arith)),
  subst (λ (f : FrameKind). Laid t handle share f (map (frame_at t handle share count msg) (range_with_len (i + 1) (suc k)))) (ap kind_at (add-one i))
      (laid_from t handle share count msg c k (i + 1) (omega arith)),
)

laid : (t : Transfer) (handle share : ℕ) (msg : List ℕ) → Laid t handle share First (frames_of t handle share msg)
laid t handle share msg =
    let count = count_of (length msg) share in
    subst (λ (k : ℕ). Laid t handle share First (map (frame_at t handle share count msg) (range_with_len 0 k))) (sym (add-one ((length msg - 1) / share)))
    (laid_from t handle share count msg refl ((length msg - 1) / share) 0 (omega arith))

-- a transfer with its payload, where a full frame has room for its part
puts_transfer : (v : View) (c : Carrier) (t : Transfer) (msg : List ℕ) → measured c.bytes t + min (max 1 (share_by v c t)) (length msg) + 4 ≤ v.settings.max_frame_size
    → PutsTransfer v c t msg (cut v t (share_by v c t) msg)
puts_transfer v c t msg r =
    record {
      laid = laid t (unwrap_or v.input 0) (max 1 (share_by v c t)) msg;
      carries = λ w. carried c.bytes t w (unwrap_or v.input 0) (max 1 (share_by v c t)) v.settings.max_frame_size msg (omega arith) r;
    }

not_narrow : (v : View) (c : Carrier) (t : Transfer) (msg : List ℕ) (len : ℕ) → length msg ≡ len → narrow v.settings.max_frame_size (measured c.bytes t) len ≡ false
    → PutsTransfer v c t msg (cut v t (share_by v c t) msg)
not_narrow v c t msg len e h =
    puts_transfer v c t msg (omega (arith, fits_clear v.settings.max_frame_size (measured c.bytes t) len h, ap (λ n. min (max 1 (share_by v c t)) n) e))

puts_sent : (v : View) (c : Carrier) (m : Sendable) → send_refusal v c m ≡ None → PutsTransfer v c (transfer_of v m) (message c.pool m.place) (sent_frames v c m)
puts_sent v c m h =
    let k = clear v c m (own_clear v c m h) in
    puts_transfer v c (transfer_of v m) (message c.pool m.place)
    (omega (arith, fits_clear v.settings.max_frame_size (size_for v c m) m.place.len k.fits, ap (λ n. min (max 1 (share_by v c (transfer_of v m))) n) (length_message c.pool m.place k.place)))

-- ---- work

-- a task's transfer carries its payload
puts_task : (v : View) (c : Carrier) (t : Task) (msg : List ℕ) → task_payload c t ≡ msg → length msg ≡ t.payload.len → AllByRecursion (λ o. o ≡ None) (task_rows v c t)
    → PutsTransfer v c t.transfer msg (task_frames v c t)
puts_task v c t msg e l h =
    subst (λ (m : List ℕ). PutsTransfer v c t.transfer msg (cut v t.transfer (share_by v c t.transfer) m)) (sym e)
    (not_narrow v c t.transfer msg t.payload.len l (row_off (narrow v.settings.max_frame_size (measured c.bytes t.transfer) t.payload.len) fault.FrameTooSmall h.0))

-- an entry's place that is not outside the pool
inside : (pool : List ℕ) (p : Place) → row (outside p (length pool)) fault.OutsidePool ≡ None → length (message pool p) ≡ p.len
inside pool p h = length_message pool p (place_clear p (length pool) (row_off (outside p (length pool)) fault.OutsidePool h))

work_puts : (v : View) (c : Carrier) (is : List ResumingDelivery) → AllByRecursion (λ o. o ≡ None) (item_rows v c is) → WorkPuts v c is (item_frames v c is)
work_puts v c [] h = refl
work_puts v c (item.Resend e ∷ is) h = refl
work_puts v c (item.Resume e p ∷ is) h =
    let k = start_in c.pool e.entry.place p in
    puts_task v c (resume_task v c.pool e p) (drop k (message c.pool e.entry.place)) (past_is c.pool k e.entry.place)
    (omega (arith, length-drop k (message c.pool e.entry.place), inside c.pool e.entry.place h.0)) h.1
work_puts v c (item.Abort e ∷ is) h = puts_task v c (abort_task v e) [] refl refl h
work_puts v c (item.RestateOutcome e ∷ is) h = puts_task v c (restate_task v e) (message c.pool e.entry.place) refl (inside c.pool e.entry.place h.0) h.1
work_puts v c (item.Settling t f o ∷ is) h = puts_task v c (settling_task v t f o) [] refl refl h

puts_worked : (v : View) (c : Carrier) → work_refusal v c ≡ None → WorkPuts v c v.held.resume (worked_frames v c)
puts_worked v c h = work_puts v c v.held.resume (all_none (row (not (working v)) (fault.LinkState IllegalState) ∷ item_rows v c v.held.resume) h).1

-- ---- resend

resend_puts : (v : View) (c : Carrier) (es : List Entry) → AllByRecursion (λ o. o ≡ None) (again_rows v c es) → ResendPuts v c es (again_frames v c es)
resend_puts v c [] h = refl
resend_puts v c (e ∷ es) h =
    not_narrow v c (transfer_of v (again e)) (message c.pool e.entry.place) e.entry.place.len (inside c.pool e.entry.place h.0)
    (row_off (narrow v.settings.max_frame_size (size_for v c (again e)) e.entry.place.len) fault.FrameTooSmall h.1.1.0)

puts_resent : (v : View) (c : Carrier) → resend_refusal v c ≡ None → ResendPuts v c v.held.resend (resent_frames v c)
puts_resent v c h =
    resend_puts v c v.held.resend
    (all_none
    (row (not (ready v)) (fault.LinkState IllegalState) ∷ (row (not (none_left v.held.resume)) fault.ListsNotEmpty ∷ again_rows v c v.held.resend))
    h).1.1

-- ---- every call

nothing : (v : View) (c : Call) → put_by v c ≡ [] → GoesOut v c [] → PutsRight v c (put_by v c)
nothing v c e g = record { none_where_refused = λ _. e; right_where_accepted = λ _. subst (GoesOut v c) (sym e) g }

-- a refused call puts nothing
unrefused : {E : Type 0} (v : View) (c : Call) (o : Option E) (fs : List Frame) → refused v c ≡ is_some o → put_by v c ≡ unless o [] fs → (o ≡ None → GoesOut v c fs)
    → PutsRight v c (put_by v c)
unrefused v c None fs r e g = record { none_where_refused = λ h. absurd (true≢false (sym h ∙ r)); right_where_accepted = λ _. subst (GoesOut v c) (sym e) (g refl) }
unrefused v c (Some x) fs r e g = record { none_where_refused = λ _. e; right_where_accepted = λ h. absurd (true≢false (sym r ∙ h)) }

pub puts_right : (v : View) (c : Call) → PutsRight v c (put_by v c)
puts_right v (Open handle incomplete) = nothing v (Open handle incomplete) refl refl
puts_right v (Attach a pool) = nothing v (Attach a pool) refl refl
puts_right v (Flow i) = nothing v (Flow i) refl refl
puts_right v (Send c m) = unrefused v (Send c m) (send_refusal v c m) (sent_frames v c m) refl refl (puts_sent v c m)
puts_right v (Disposition t b s) = nothing v (Disposition t b s) refl refl
puts_right v (Dispose sink d) = unrefused v (Dispose sink d) (dispose_refusal v sink) (disposed_frames v d) refl refl (λ _. refl)
puts_right v (Work c) = unrefused v (Work c) (work_refusal v c) (worked_frames v c) refl refl (puts_worked v c)
puts_right v (Resend c) = unrefused v (Resend c) (resend_refusal v c) (resent_frames v c) refl refl (puts_resent v c)
puts_right v (Detach closed error) = nothing v (Detach closed error) refl refl
puts_right v (Look k) = nothing v (Look k) refl refl
puts_right v (Collect k) = nothing v (Collect k) refl refl

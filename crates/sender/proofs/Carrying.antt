-- A task from its halves: what refuses it here, and what the sink says.
use Rattle.std.proofs.Common.{◌≡◌, [], ◌∷◌, length, Some, None, Ok, Err, Option, Result, sym, ap, ◌∙◌, subst}
use Rattle.std.proofs.lemmas.List.FromFn.{length-map-range_with_len}
use Rattle.amqp.specs.declared.error.SendError.{SendError}
use Rattle.amqp.specs.declared.error.SendError.TheVariants as fault
use Rattle.amqp.specs.Headers.{Widest}
use Rattle.sink.specs.Frames.{Model, After}
use Rattle.link.specs.declared.resumption.Task.{Task}
use Rattle.link.specs.Rows.{first, gated, unless}
use Rattle.link.specs.Sending.{Carrier, sink_row, share_by, frames_needed}
use Rattle.link.specs.Turns.{stay, landed}
use Rattle.link.specs.Views.{View}
use Rattle.link.specs.Working.{task_payload, task_frames, task_rows, tasked}
use Rattle.link.proofs.Rows.{first_some, first_none, first_alone, after_same, accepted_not, accepted, gated_err, gated_ok, all_none, row_off}
use Rattle.link.proofs.Sending.{transfer_carries}
use Rattle.sender.specs.Tasks.{own_rows}
use Rattle.sender.specs.Works.{Inside, Carried}

module _ (v : View) (c : Carrier) (t : Task) where
  abbrev by_sink : Option SendError
  by_sink = sink_row c.sink (share_by v c t.transfer) (task_payload c t)

  pub refused : (e : SendError) → first (own_rows v c.bytes t) ≡ Some e → Carried v c t (Err e) v c.sink
  refused e h =
      let f = first_some (own_rows v c.bytes t) (by_sink ∷ []) e h in
      record {
        answer = sym (ap (λ o. gated o tt) f);
        link = sym (ap (λ o. landed v (unless o (stay v) (tasked v v.held.resume t))) f);
        sink = after_same (first (task_rows v c t)) e c.sink (task_frames v c t) (length (task_frames v c t)) f;
        carries = accepted_not (first (task_rows v c t)) e _ f;
      }

  decides : first (own_rows v c.bytes t) ≡ None → first (task_rows v c t) ≡ by_sink
  decides h = first_none (own_rows v c.bytes t) (by_sink ∷ []) h ∙ first_alone by_sink

  -- as many frames as are needed
  frames : frames_needed (share_by v c t.transfer) (task_payload c t) ≡ length (task_frames v c t)
  frames = sym (length-map-range_with_len _ 0 (frames_needed (share_by v c t.transfer) (task_payload c t)))

  module _ (s : Model) (h : first (own_rows v c.bytes t) ≡ None) (a : After by_sink c.sink s (task_frames v c t) (frames_needed (share_by v c t.transfer) (task_payload c t))) where
    left : After (first (task_rows v c t)) c.sink s (task_frames v c t) (length (task_frames v c t))
    left =
        subst (λ o. After o c.sink s (task_frames v c t) (length (task_frames v c t))) (sym (decides h))
        (subst (λ n. After by_sink c.sink s (task_frames v c t) n) frames a)

    pub stopped : (e : SendError) → ◌≡◌ {A = Result (Unit {0}) SendError} (Err e) (gated by_sink tt) → Carried v c t (Err e) v s
    stopped e r =
        let f = decides h ∙ gated_err by_sink tt e r in
        record {
          answer = sym (ap (λ o. gated o tt) f);
          link = sym (ap (λ o. landed v (unless o (stay v) (tasked v v.held.resume t))) f);
          sink = left;
          carries = accepted_not (first (task_rows v c t)) e _ f;
        }

    pub done : (w : View) → ◌≡◌ {A = Result (Unit {0}) SendError} (Ok tt) (gated by_sink tt) → w ≡ landed v (tasked v v.held.resume t) → Widest c.bytes t.transfer → Inside t c.pool → Carried v c t (Ok tt) w s
    done w r l x p =
        let f = decides h ∙ (gated_ok by_sink tt tt r).0 in
        record {
          answer = sym (ap (λ o. gated o tt) f);
          link = l ∙ sym (ap (λ o. landed v (unless o (stay v) (tasked v v.held.resume t))) f);
          sink = left;
          carries = accepted (first (task_rows v c t)) (transfer_carries v c t.transfer t.payload x p (row_off _ fault.FrameTooSmall (all_none (own_rows v c.bytes t) h).0));
        }

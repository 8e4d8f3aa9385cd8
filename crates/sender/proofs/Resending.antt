-- A step through the resend list, from the task of its first delivery.
use Rattle.std.proofs.Common.{◌≡◌, Bool, true, false, cond, eqb, List, [], ◌∷◌, drop, length, is_some, not, None, Ok, Err, sym, refl, ap, ◌∙◌, subst}
use Rattle.amqp.specs.declared.error.SendError.{SendError}
use Rattle.sink.specs.Frames.{Model}
use Rattle.unsettled.specs.Messages.{outside}
use Rattle.link.specs.declared.resumption.Progress.TheVariants.{Worked}
use Rattle.link.specs.Resending.{again, sent_again, again_rows, again_as, again_turn, again_frames}
use Rattle.link.specs.Rows.{first, gated, unless}
use Rattle.link.specs.Sending.{Carrier, goes_settled, next_tag, join_rows}
use Rattle.link.specs.Turns.{stay, landed}
use Rattle.link.specs.Views.{View, Entry}
use Rattle.link.specs.Working.{task_rows, joining_rows, tasked}
use Rattle.link.proofs.Rows.{gated_ok}
use Rattle.sender.specs.Puts.{Puts}
use Rattle.sender.specs.Resends.{kept, again_task, again_payload, sent_on, AgainDone}
use Rattle.sender.specs.Works.{Carried}
use Rattle.sender.proofs.Working.{refused_too}

rows_of : (b : Bool) (v : View) (e : Entry) → joining_rows (kept b (sent_again v e)) v ≡ cond b [] (join_rows (next_tag v) v)
rows_of true v e = refl
rows_of false v e = refl

-- settled or not, where it then stands
landed_as : (b : Bool) (v : View) (e : Entry) (es : List Entry) → v.held.resend ≡ e ∷ es → (w : View)
    → w ≡ landed v (tasked v v.held.resume (record { transfer = (again_task v e).transfer; payload = e.entry.place; joins = kept b (sent_again v e); ends = None }))
    → landed w (sent_on b e.entry w) ≡ landed v (again_as b v e es)
landed_as true v e es r w l = ap (λ (x : View). landed x (sent_on true e.entry x)) l ∙ ap (λ xs. landed v (again_as true v e (drop 1 xs))) r
landed_as false v e es r w l = ap (λ (x : View). landed x (sent_on false e.entry x)) l ∙ ap (λ xs. landed v (again_as false v e (drop 1 xs))) r

-- no entry joins the table exactly where it goes out settled
pub settled_is : (b s : Bool) (v : View) (e : Entry) → is_some (kept b (sent_again v e)) ≡ not s → s ≡ b
settled_is true true v e h = refl
settled_is true false v e h = absurd (cc)
settled_is false true v e h = absurd (cc)
settled_is false false v e h = refl

module _ (v : View) (c : Carrier) (e : Entry) (es : List Entry) (place : outside e.entry.place (length c.pool) ≡ false) (credit : eqb v.flow.link_credit 0 ≡ false) where
  rows : first (task_rows v c (again_task v e)) ≡ first (again_rows v c (e ∷ es))
  rows = rw (place, credit, rows_of (goes_settled v (again e)) v e) refl

  pub refused : (x : SendError) (w : View) (t : Model) → Carried v c (again_task v e) (Err x) w t → AgainDone (e ∷ es) v c (Err x) w t
  refused x w t h =
      subst (λ o. Puts o Worked (again_turn v (e ∷ es)) (again_frames v c (e ∷ es)) (again_payload c (e ∷ es)) v c (Err x) w t) rows
      (refused_too _ _ Worked _ (again_turn v (e ∷ es)) _ _ _ _ _ _ _ h)

  pub done : (w y : View) (t : Model) (s : Bool) → s ≡ goes_settled v (again e) → v.held.resend ≡ e ∷ es → Carried v c (again_task v e) (Ok tt) w t → y ≡ landed w (sent_on s e.entry w)
      → AgainDone (e ∷ es) v c (Ok Worked) y t
  done w y t s q r h l =
      let o = first (task_rows v c (again_task v e)) in
      let n = (gated_ok o tt tt h.answer).0 in
      let f = sym rows ∙ n in
      let k = h.link ∙ ap (λ q. landed v (unless q (stay v) (tasked v v.held.resume (again_task v e)))) n in
      record {
        answer = sym (ap (λ q. gated q Worked) f);
        link =
            l ∙ ap (λ b. landed w (sent_on b e.entry w)) q ∙ landed_as (goes_settled v (again e)) v e es r w k
            ∙ sym (ap (λ q. landed v (unless q (stay v) (again_turn v (e ∷ es)))) f);
        sink = rw rows at h.sink;
        carries = rw rows at h.carries;
      }

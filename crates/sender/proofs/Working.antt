-- A step through the resume list, from the task of its first item.
use Rattle.std.proofs.Common.{◌≡◌, ℕ, List, [], ◌∷◌, drop, Some, Ok, Err, Option, Result, sym, ap, ◌∙◌, subst}
use Rattle.std.specs.List.{slice_get}
use Rattle.amqp.specs.declared.error.SendError.{SendError}
use Rattle.sink.specs.Frames.{Frame, Model}
use Rattle.link.specs.declared.resumption.Progress.TheVariants.{Worked}
use Rattle.link.specs.declared.resumption.Task.{Task}
use Rattle.link.specs.Rows.{first, gated, unless}
use Rattle.link.specs.Sending.{Carrier}
use Rattle.link.specs.Turns.{Turn, stay, landed}
use Rattle.link.specs.Views.{View}
use Rattle.link.specs.Working.{task_rows, tasked}
use Rattle.link.proofs.Rows.{gated_err, gated_ok}
use Rattle.sender.specs.Puts.{Puts}
use Rattle.sender.specs.Views.{resuming_with}
use Rattle.sender.specs.Works.{Carried, Finished}

-- what was refused is refused with another answer, and another turn
pub refused_too : {A B : Type 0} (o : Option SendError) (a : A) (b : B) (u x : Turn) (fs : List Frame) (p : List ℕ) (v : View) (c : Carrier) (e : SendError) (w : View) (t : Model)
    → Puts o a u fs p v c (Err e) w t → Puts o b x fs p v c (Err e) w t
refused_too o a b u x fs p v c e w t h =
    let f = gated_err o a e h.answer in
    record {
      answer = sym (ap (λ q. gated q b) f);
      link = h.link ∙ ap (λ q. landed v (unless q (stay v) u)) f ∙ sym (ap (λ q. landed v (unless q (stay v) x)) f);
      sink = h.sink;
      carries = h.carries;
    }

pub finished : (v : View) (c : Carrier) (k : Task) (w x : View) (t : Model) → Carried v c k (Ok tt) w t → x ≡ resuming_with (drop 1 w.held.resume) w → Finished v c k (Ok Worked) x t
finished v c k w x t h e =
    let o = first (task_rows v c k) in
    let f = (gated_ok o tt tt h.answer).0 in
    let l = h.link ∙ ap (λ q. landed v (unless q (stay v) (tasked v v.held.resume k))) f in
    record {
      answer = sym (ap (λ q. gated q Worked) f);
      link = e ∙ ap (λ y. resuming_with (drop 1 y.held.resume) y) l ∙ sym (ap (λ q. landed v (unless q (stay v) (tasked v (drop 1 v.held.resume) k))) f);
      sink = h.sink;
      carries = h.carries;
    }

-- a payload by another name
pub paid : {A : Type 0} (o : Option SendError) (a : A) (u : Turn) (fs : List Frame) (p q : List ℕ) (v : View) (c : Carrier) (r : Result A SendError) (w : View) (t : Model) → p ≡ q
    → Puts o a u fs p v c r w t → Puts o a u fs q v c r w t
paid o a u fs p q v c r w t e h = subst (λ x. Puts o a u fs x v c r w t) e h

-- the first of a list, and the rest
pub first_is : {X : Type 0} (xs : List X) (x : X) → slice_get xs 0 ≡ Some x → xs ≡ x ∷ drop 1 xs
first_is [] x h = absurd (cc)
first_is (y ∷ ys) x h = cc

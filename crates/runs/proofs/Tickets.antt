-- Which deliveries a call begins, and which tickets it spends: those of its answers.
use Rattle.std.proofs.Common.{◌≡◌, ℕ, Bool, true, false, cond, ◌||◌, List, [], ◌∷◌, Some, None, Option, refl, ap, arith}
use Rattle.amqp.specs.declared.error.SendError.{SendError}
use Rattle.amqp.specs.declared.state.DeliveryState.{DeliveryState}
use Rattle.amqp.specs.declared.tag.DeliveryTag.{DeliveryTag}
use Rattle.unsettled.specs.declared.message.UnsettledMessage.{UnsettledMessage}
use Rattle.unsettled.specs.Tables.{look}
use Rattle.link.specs.declared.delivery.Disposal.{Disposal}
use Rattle.link.specs.declared.delivery.Sendable.{Sendable}
use Rattle.link.specs.declared.resumption.ResumingDelivery.{ResumingDelivery}
use Rattle.link.specs.declared.resumption.ResumingDelivery.TheVariants as item
use Rattle.link.specs.Attaching.{open_refusal, opened, attach_refusal, attached}
use Rattle.link.specs.Calls.{Call, Open, Attach, Flow, Send, Disposition, Dispose, Work, Resend, Detach, Look, Collect, turn}
use Rattle.link.specs.Detaching.{detach_refusal, detached}
use Rattle.link.specs.Disposing.{disposed_at, disposed_as, dispose_refusal, sends_settled, disposed_here, disposed_here_at, disposed_here_as}
use Rattle.link.specs.Outcomes.{ended}
use Rattle.link.specs.Resending.{again, again_as, again_turn, resend_refusal, resent}
use Rattle.link.specs.Rows.{unless, gated}
use Rattle.link.specs.Sending.{goes_settled, send_refusal, sent, sent_as, answer_as, sent_answer}
use Rattle.link.specs.Turns.{Turn, stay}
use Rattle.link.specs.Views.{View, Entry}
use Rattle.link.specs.Working.{work_refusal, item_turn, worked}
use Rattle.runs.specs.Runs.{gives, spends, ticket_in}
use Rattle.runs.proofs.Words.{among}

begun_as : (v : View) (m : Sendable) (n : ℕ) (b : Bool) → among n (sent_as b v m).begun ≡ ticket_in n (gated {E = SendError} None (answer_as b v))
begun_as v m n true = refl
begun_as v m n false = omega arith

begun_send : (v : View) (m : Sendable) (n : ℕ) (o : Option SendError) → among n (unless o (stay v) (sent v m)).begun ≡ ticket_in n (gated o (sent_answer v m))
begun_send v m n (Some e) = refl
begun_send v m n None = begun_as v m n (goes_settled v m)

-- a turn that begins no delivery and spends no ticket
record Plain (u : Turn) : Type 0 where
  begun : u.begun ≡ []
  spent : u.spent ≡ []

-- one that may not come about
may_be : {E : Type 0} (v : View) (o : Option E) (u : Turn) → Plain u → Plain (unless o (stay v) u)
may_be v None u p = p
may_be v (Some e) u p = record { begun = refl; spent = refl }

disposed_plain : (v : View) (t : DeliveryTag) (b : Bool) (s : Option DeliveryState) (o : Option UnsettledMessage) → Plain (disposed_at o t b s v)
disposed_plain v t b s None = record { begun = refl; spent = refl }
disposed_plain v t b s (Some m) = go (b || ended s)
  where
    go : (e : Bool) → Plain (disposed_as e t s m v)
    go true = record { begun = refl; spent = refl }
    go false = record { begun = refl; spent = refl }

here_plain : (v : View) (d : Disposal) (o : Option UnsettledMessage) (b : Bool) → Plain (cond b (stay v) (disposed_here_at o d v))
here_plain v d o true = record { begun = refl; spent = refl }
here_plain v d None false = record { begun = refl; spent = refl }
here_plain v d (Some m) false = go d.settled
  where
    go : (e : Bool) → Plain (disposed_here_as e d m v)
    go true = record { begun = refl; spent = refl }
    go false = record { begun = refl; spent = refl }

work_plain : (v : View) (pool : List ℕ) (is : List ResumingDelivery) → Plain (item_turn v pool is)
work_plain v pool [] = record { begun = refl; spent = refl }
work_plain v pool (item.Resend e ∷ is) = record { begun = refl; spent = refl }
work_plain v pool (item.Resume e p ∷ is) = record { begun = refl; spent = refl }
work_plain v pool (item.Abort e ∷ is) = record { begun = refl; spent = refl }
work_plain v pool (item.RestateOutcome e ∷ is) = record { begun = refl; spent = refl }
work_plain v pool (item.Settling t f o ∷ is) = record { begun = refl; spent = refl }

resend_plain : (v : View) (es : List Entry) → Plain (again_turn v es)
resend_plain v [] = record { begun = refl; spent = refl }
resend_plain v (e ∷ es) = go (goes_settled v (again e))
  where
    go : (b : Bool) → Plain (again_as b v e es)
    go true = record { begun = refl; spent = refl }
    go false = record { begun = refl; spent = refl }

-- what a turn begins and spends is what its call answers and is given
pub record Fair (n : ℕ) (v : View) (c : Call) : Type 0 where
  pub begins : among n (turn v c).begun ≡ gives n v c
  pub spent : among n (turn v c).spent ≡ spends n c

no_ticket : (n : ℕ) (v : View) (c : Call) → gives n v c ≡ 0 → spends n c ≡ 0 → Plain (turn v c) → Fair n v c
no_ticket n v c g s p = record { begins = omega (arith, ap (among n) p.begun); spent = omega (arith, ap (among n) p.spent) }

spent_sent : (v : View) (m : Sendable) (b : Bool) → (sent_as b v m).spent ≡ []
spent_sent v m true = refl
spent_sent v m false = refl

spent_send : (v : View) (m : Sendable) (n : ℕ) (o : Option SendError) → among n (unless o (stay v) (sent v m)).spent ≡ 0
spent_send v m n (Some e) = refl
spent_send v m n None = ap (among n) (spent_sent v m (goes_settled v m))

pub fair : (n : ℕ) (v : View) (c : Call) → Fair n v c
fair n v (Open handle incomplete) = no_ticket n v (Open handle incomplete) refl refl (may_be v (open_refusal v incomplete) (opened v handle incomplete) (record { begun = refl; spent = refl }))
fair n v (Attach a pool) = no_ticket n v (Attach a pool) refl refl (may_be v (attach_refusal v a pool) (attached v a) (record { begun = refl; spent = refl }))
fair n v (Flow i) = record { begins = refl; spent = refl }
fair n v (Send c m) = record { begins = begun_send v m n (send_refusal v c m); spent = spent_send v m n (send_refusal v c m) }
fair n v (Disposition t b s) = no_ticket n v (Disposition t b s) refl refl (disposed_plain v t b s (look t v.held.table))
fair n v (Dispose sink d) =
    no_ticket n v (Dispose sink d) refl refl (may_be v (dispose_refusal v sink) (disposed_here v d) (here_plain v d (look d.delivery_tag v.held.table) (sends_settled v)))
fair n v (Work c) = no_ticket n v (Work c) refl refl (may_be v (work_refusal v c) (worked v c) (work_plain v c.pool v.held.resume))
fair n v (Resend c) = no_ticket n v (Resend c) refl refl (may_be v (resend_refusal v c) (resent v) (resend_plain v v.held.resend))
fair n v (Detach closed error) =
    no_ticket n v (Detach closed error) refl refl (may_be v (detach_refusal v closed) (detached v closed error) (record { begun = refl; spent = refl }))
fair n v (Look k) = record { begins = refl; spent = refl }
fair n v (Collect k) = record { begins = refl; spent = omega arith }

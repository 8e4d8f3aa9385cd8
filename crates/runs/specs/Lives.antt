-- The life of a delivery, told by the calls of a run: where it stands, under which tag, at which place and with which state,
-- or how it ended. It names no step of the link.
use Rattle.std.specs.Prelude.{◌≡◌, ℕ, Bool, true, false, cond, ◌||◌, List, [], ◌∷◌, Some, None, Option, ◌==◌}
use Rattle.amqp.specs.declared.condition.AmqpError.{AmqpError}
use Rattle.amqp.specs.declared.state.DeliveryState.{DeliveryState}
use Rattle.unsettled.specs.Tables.{same_tag}
use Rattle.link.specs.declared.delivery.Outcome.{Outcome}
use Rattle.link.specs.declared.delivery.Outcome.TheVariants.{State, NoState}
use Rattle.link.specs.declared.delivery.Sendable.{Sendable}
use Rattle.link.specs.declared.resumption.ResumingDelivery.{ResumingDelivery}
use Rattle.link.specs.declared.resumption.ResumingDelivery.TheVariants as item
use Rattle.link.specs.declared.resumption.Resumption.{Resumption}
use Rattle.link.specs.declared.resumption.Resumption.TheVariants as to
use Rattle.link.specs.Calls.{Call, Open, Attach, Flow, Send, Disposition, Dispose, Work, Resend, Detach, Look, Collect, refused}
use Rattle.link.specs.Detaching.{closed_by}
use Rattle.link.specs.Disposing.{recording, sends_settled}
use Rattle.link.specs.Outcomes.{ended, recorded, outcome_of}
use Rattle.link.specs.Resending.{again, sent_again}
use Rattle.link.specs.Resuming.{judge, item_for}
use Rattle.link.specs.Sending.{first_sent, goes_settled, next_number}
use Rattle.link.specs.Views.{View, Held, Entry}
use Rattle.link.specs.Working.{start_in, cut_to}
use Rattle.runs.specs.Runs.{Run, made, ◌▹◌, after}

-- a delivery waits in the resume list for what the attach decided
pub data Where : Type 0 where
  in_table in_resend_list : Where
  in_resume_list : Resumption → Where

pub data Life : Type 0 where
  unborn : Life
  standing : Where → Entry → Life
  over : Outcome → Life

-- ---- what an accepted call makes of a life

-- a send that is not settled begins the delivery of the next number, in the table, with the send's place and no state
abbrev pub sent_life : View → Sendable → ℕ → (settled : Bool) → Life
sent_life v m n true = unborn
sent_life v m n false = cond (n == next_number v) (standing in_table (first_sent v m)) unborn

-- the entry with a state told
abbrev pub told : Option DeliveryState → Entry → Entry
told s e = record { tag = e.tag; entry = recording s e.entry }

-- the peer's disposition of its tag ends it, with the outcome told before if there is one, or records the state
abbrev pub disposed_life : (ends : Bool) → Option DeliveryState → Entry → Life
disposed_life true s e = over (outcome_of (recorded e.entry.state s))
disposed_life false s e = standing in_table (told s e)

-- our own ends it with the state recorded before, or records the state
abbrev pub disposed_here_life : (settled : Bool) → DeliveryState → Entry → Life
disposed_here_life true s e = over (outcome_of e.entry.state)
disposed_here_life false s e = standing in_table (told (Some s) e)

-- an attach has it wait in the resume list, or ends it
abbrev pub judged : Resumption → Entry → Life
judged to.Resend e = standing (in_resume_list to.Resend) e
judged (to.Resume p) e = standing (in_resume_list (to.Resume p)) e
judged to.Abort e = standing (in_resume_list to.Abort) e
judged to.RestateOutcome e = standing (in_resume_list to.RestateOutcome) e
judged (to.End s) e = over (State s)
judged (to.Settle s) e = over (State s)

-- work on it: resumed, it stands with its unsent part and no state; restated, as it was; aborted, it has ended
abbrev pub worked_life : (pool : List ℕ) → Resumption → Entry → Life
worked_life pool to.Resend e = standing in_resend_list e
worked_life pool (to.Resume p) e = standing in_table (cut_to (start_in pool e.entry.place p) e)
worked_life pool to.Abort e = over NoState
worked_life pool to.RestateOutcome e = standing in_table e
worked_life pool (to.End s) e = over (State s)
worked_life pool (to.Settle s) e = over (State s)

-- sent again, it stands under the next tag with no state
abbrev pub resent_life : (settled : Bool) → View → Entry → Life
resent_life true v e = over (outcome_of e.entry.state)
resent_life false v e = standing in_table (sent_again v e)

-- a detach that closes ends it; any other brings it back into the table
abbrev pub detached_life : (closed : Bool) → Option AmqpError → Entry → Life
detached_life true error e = over (closed_by error)
detached_life false error e = standing in_table e

-- its turn has come in the resume list, or in the resend list
abbrev pub works_on : ℕ → List ResumingDelivery → Bool
works_on n [] = false
works_on n (item.Resend e ∷ is) = n == e.entry.ticket
works_on n (item.Resume e p ∷ is) = n == e.entry.ticket
works_on n (item.Abort e ∷ is) = n == e.entry.ticket
works_on n (item.RestateOutcome e ∷ is) = n == e.entry.ticket
works_on n (item.Settling t f o ∷ is) = false

abbrev pub resends : ℕ → List Entry → Bool
resends n [] = false
resends n (e ∷ es) = n == e.entry.ticket

-- by where the delivery stands
abbrev pub from_unborn : View → Call → ℕ → Life
from_unborn v (Open handle incomplete) n = unborn
from_unborn v (Attach a pool) n = unborn
from_unborn v (Flow i) n = unborn
from_unborn v (Send c m) n = sent_life v m n (goes_settled v m)
from_unborn v (Disposition t b s) n = unborn
from_unborn v (Dispose k d) n = unborn
from_unborn v (Work c) n = unborn
from_unborn v (Resend c) n = unborn
from_unborn v (Detach closed error) n = unborn
from_unborn v (Look k) n = unborn
from_unborn v (Collect k) n = unborn

abbrev pub from_table : View → Call → Entry → Life
from_table v (Open handle incomplete) e = standing in_table e
from_table v (Attach a pool) e = judged (judge a e) e
from_table v (Flow i) e = standing in_table e
from_table v (Send c m) e = standing in_table e
from_table v (Disposition t b s) e = cond (same_tag e.tag t) (disposed_life (b || ended s) s e) (standing in_table e)
from_table v (Dispose k d) e =
    cond (sends_settled v) (standing in_table e) (cond (same_tag e.tag d.delivery_tag) (disposed_here_life d.settled d.state e) (standing in_table e))
from_table v (Work c) e = standing in_table e
from_table v (Resend c) e = standing in_table e
from_table v (Detach closed error) e = detached_life closed error e
from_table v (Look k) e = standing in_table e
from_table v (Collect k) e = standing in_table e

abbrev pub from_resume_list : View → Call → ℕ → Resumption → Entry → Life
from_resume_list v (Open handle incomplete) n r e = standing (in_resume_list r) e
from_resume_list v (Attach a pool) n r e = standing (in_resume_list r) e
from_resume_list v (Flow i) n r e = standing (in_resume_list r) e
from_resume_list v (Send c m) n r e = standing (in_resume_list r) e
from_resume_list v (Disposition t b s) n r e = standing (in_resume_list r) e
from_resume_list v (Dispose k d) n r e = standing (in_resume_list r) e
from_resume_list v (Work c) n r e = cond (works_on n v.held.resume) (worked_life c.pool r e) (standing (in_resume_list r) e)
from_resume_list v (Resend c) n r e = standing (in_resume_list r) e
from_resume_list v (Detach closed error) n r e = detached_life closed error e
from_resume_list v (Look k) n r e = standing (in_resume_list r) e
from_resume_list v (Collect k) n r e = standing (in_resume_list r) e

abbrev pub from_resend_list : View → Call → ℕ → Entry → Life
from_resend_list v (Open handle incomplete) n e = standing in_resend_list e
from_resend_list v (Attach a pool) n e = standing in_resend_list e
from_resend_list v (Flow i) n e = standing in_resend_list e
from_resend_list v (Send c m) n e = standing in_resend_list e
from_resend_list v (Disposition t b s) n e = standing in_resend_list e
from_resend_list v (Dispose k d) n e = standing in_resend_list e
from_resend_list v (Work c) n e = standing in_resend_list e
from_resend_list v (Resend c) n e = cond (resends n v.held.resend) (resent_life (goes_settled v (again e)) v e) (standing in_resend_list e)
from_resend_list v (Detach closed error) n e = detached_life closed error e
from_resend_list v (Look k) n e = standing in_resend_list e
from_resend_list v (Collect k) n e = standing in_resend_list e

abbrev pub next_life : View → Call → ℕ → Life → Life
next_life v c n unborn = from_unborn v c n
next_life v c n (standing in_table e) = from_table v c e
next_life v c n (standing (in_resume_list r) e) = from_resume_list v c n r e
next_life v c n (standing in_resend_list e) = from_resend_list v c n e
next_life v c n (over o) = over o

-- only accepted calls change a life
abbrev pub life : Run → ℕ → Life
life (made m) n = unborn
life (r ▹ c) n = cond (refused (after r) c) (life r n) (next_life (after r) c n (life r n))

-- ---- what stands under a number

-- the entries of a number in a list
abbrev pub of : ℕ → List Entry → List Entry
of n [] = []
of n (e ∷ es) = cond (n == e.entry.ticket) (e ∷ of n es) (of n es)

-- the items of a number in a resume list; a settling is no delivery's
abbrev pub items_of : ℕ → List ResumingDelivery → List ResumingDelivery
items_of n [] = []
items_of n (item.Resend e ∷ is) = cond (n == e.entry.ticket) (item.Resend e ∷ items_of n is) (items_of n is)
items_of n (item.Resume e p ∷ is) = cond (n == e.entry.ticket) (item.Resume e p ∷ items_of n is) (items_of n is)
items_of n (item.Abort e ∷ is) = cond (n == e.entry.ticket) (item.Abort e ∷ items_of n is) (items_of n is)
items_of n (item.RestateOutcome e ∷ is) = cond (n == e.entry.ticket) (item.RestateOutcome e ∷ items_of n is) (items_of n is)
items_of n (item.Settling t f o ∷ is) = items_of n is

-- what a life has in the table, in the resume list and in the resend list
abbrev pub in_its_table : Life → List Entry
in_its_table unborn = []
in_its_table (standing in_table e) = e ∷ []
in_its_table (standing (in_resume_list r) e) = []
in_its_table (standing in_resend_list e) = []
in_its_table (over o) = []

abbrev pub in_its_resume_list : Life → List ResumingDelivery
in_its_resume_list unborn = []
in_its_resume_list (standing in_table e) = []
in_its_resume_list (standing (in_resume_list r) e) = item_for r e
in_its_resume_list (standing in_resend_list e) = []
in_its_resume_list (over o) = []

abbrev pub in_its_resend_list : Life → List Entry
in_its_resend_list unborn = []
in_its_resend_list (standing in_table e) = []
in_its_resend_list (standing (in_resume_list r) e) = []
in_its_resend_list (standing in_resend_list e) = e ∷ []
in_its_resend_list (over o) = []

-- all that stands under the number, in table and lists, is what its life says: once, or nowhere
pub record AsLived (n : ℕ) (x : Life) (h : Held) : Type 0 where
  pub table : of n h.table ≡ in_its_table x
  pub resume : items_of n h.resume ≡ in_its_resume_list x
  pub resend : of n h.resend ≡ in_its_resend_list x

-- a life that has begun
abbrev pub born : Life → ℕ
born unborn = 0
born (standing w e) = 1
born (over o) = 1

-- what the ticket tells: how the delivery ended, or none yet
abbrev pub progress : Life → Option Outcome
progress unborn = None
progress (standing w e) = None
progress (over o) = Some o

-- A step through the resume list.
use Rattle.std.specs.Prelude.{ℕ, ◌+◌, ◌≤◌, List, [], ◌∷◌, ◌++◌, length, drop, Result}
use Rattle.amqp.specs.declared.error.SendError.{SendError}
use Rattle.amqp.specs.declared.error.SendError.TheVariants.{OutsidePool}
use Rattle.sink.specs.Frames.{Model}
use Rattle.unsettled.specs.Messages.{outside}
use Rattle.link.specs.declared.resumption.Progress.{Progress}
use Rattle.link.specs.declared.resumption.Progress.TheVariants.{Worked}
use Rattle.link.specs.declared.resumption.ResumingDelivery.{ResumingDelivery}
use Rattle.link.specs.declared.resumption.ResumingDelivery.TheVariants.{Resend, Resume, Abort, RestateOutcome, Settling}
use Rattle.link.specs.declared.resumption.Task.{Task}
use Rattle.link.specs.Rows.{row, first}
use Rattle.link.specs.Sending.{Carrier, message}
use Rattle.link.specs.Turns.{Turn, holding}
use Rattle.link.specs.Views.{View, Entry}
use Rattle.link.specs.Working.{start_in, work_refusal, worked, worked_frames, progress, task_rows, task_frames, task_payload, tasked, item_rows, item_turn, item_frames}
use Rattle.sender.specs.Puts.{Puts}

-- its payload lies in the pool
abbrev pub Inside : Task → List ℕ → Type 0
Inside t pool = t.payload.start + t.payload.len ≤ length pool

-- a task is carried out, and the item is still in its list
abbrev pub Carried : View → Carrier → Task → Result (Unit {0}) SendError → View → Model → Type 0
Carried v c t r w s = Puts (first (task_rows v c t)) tt (tasked v v.held.resume t) (task_frames v c t) (task_payload c t) v c r w s

-- and now it is off the list
abbrev pub Finished : View → Carrier → Task → Result Progress SendError → View → Model → Type 0
Finished v c t r w s = Puts (first (task_rows v c t)) Worked (tasked v (drop 1 v.held.resume) t) (task_frames v c t) (task_payload c t) v c r w s

-- the same of a task whose message has to lie in the pool
abbrev pub MessageDone : Entry → Task → View → Carrier → Result Progress SendError → View → Model → Type 0
MessageDone e t v c r w s =
    Puts (first (row (outside e.entry.place (length c.pool)) OutsidePool ∷ task_rows v c t)) Worked (tasked v (drop 1 v.held.resume) t)
    (task_frames v c t) (task_payload c t) v c r w s

-- a delivery that is to be sent again joins the resend list
abbrev pub postponed : View → Entry → Turn
postponed v e = holding v (record { table = v.held.table; resume = drop 1 v.held.resume; resend = v.held.resend ++ e ∷ [] }) []

-- what the first item carries: the message from where the peer stands, or from its start; an abort and a settling nothing
abbrev pub item_payload : Carrier → List ResumingDelivery → List ℕ
item_payload c [] = []
item_payload c (Resend e ∷ is) = []
item_payload c (Resume e p ∷ is) = drop (start_in c.pool e.entry.place p) (message c.pool e.entry.place)
item_payload c (Abort e ∷ is) = []
item_payload c (RestateOutcome e ∷ is) = message c.pool e.entry.place
item_payload c (Settling t f o ∷ is) = []

-- what is done with the first of these items
abbrev pub ItemDone : List ResumingDelivery → View → Carrier → Result Progress SendError → View → Model → Type 0
ItemDone is v c r w t = Puts (first (item_rows v c is)) (progress is) (item_turn v c.pool is) (item_frames v c is) (item_payload c is) v c r w t

-- work on link `v` answers `r` (`work_answer`), and leaves the link `w`, which is `step v (Work c)`, and the sink `t`
abbrev pub Works : View → Carrier → Result Progress SendError → View → Model → Type 0
Works v c r w t = Puts (work_refusal v c) (progress v.held.resume) (worked v c) (worked_frames v c) (item_payload c v.held.resume) v c r w t

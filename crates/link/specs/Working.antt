-- Working off the resume list: what each item puts, and what becomes of its delivery.
use Rattle.std.specs.Prelude.{ℕ, ◌+◌, ◌-◌, Bool, true, false, not, ◌&&◌, List, [], ◌∷◌, ◌++◌, length, Some, None, Option, Result, nat_le}
use Rattle.std.specs.Option.{unwrap_or}
use Rattle.amqp.specs.declared.error.LinkStateError.TheVariants.{IllegalState}
use Rattle.amqp.specs.declared.error.SendError.{SendError}
use Rattle.amqp.specs.declared.error.SendError.TheVariants as fault
use Rattle.amqp.specs.declared.header.Transfer.{Transfer}
use Rattle.amqp.specs.declared.state.DeliveryState.{DeliveryState}
use Rattle.amqp.specs.declared.state.DeliveryState.TheVariants.{Received}
use Rattle.amqp.specs.declared.state.Received.{Received as Reached}
use Rattle.amqp.specs.declared.tag.DeliveryTag.{DeliveryTag}
use Rattle.amqp.specs.Headers.{measured}
use Rattle.sections.specs.Sections.{start_of}
use Rattle.sink.specs.Frames.{Frame}
use Rattle.unsettled.specs.declared.message.Place.{Place}
use Rattle.unsettled.specs.Messages.{outside}
use Rattle.link.specs.declared.delivery.Outcome.TheVariants.{NoState}
use Rattle.link.specs.declared.resumption.Progress.{Progress}
use Rattle.link.specs.declared.resumption.Progress.TheVariants.{Done, Worked}
use Rattle.link.specs.declared.resumption.ResumingDelivery.{ResumingDelivery}
use Rattle.link.specs.declared.resumption.ResumingDelivery.TheVariants.{Resend, Resume, Abort, RestateOutcome, Settling}
use Rattle.link.specs.declared.resumption.Task.{Task}
use Rattle.link.specs.Resuming.{beginning}
use Rattle.link.specs.Rows.{row, first, gated}
use Rattle.link.specs.Sending.{Carrier, message, share_by, narrow, cut, handled, join_rows, sink_row}
use Rattle.link.specs.States.{may_work}
use Rattle.link.specs.Turns.{Turn, End, stay, holding}
use Rattle.link.specs.Views.{View, Entry}

-- ---- what goes out for a delivery that comes back: under its old tag, with `resume` set

abbrev pub coming_back : View → DeliveryTag → (format : ℕ) → (settled : Option Bool) → Option DeliveryState → (aborted : Bool) → Transfer
coming_back v tag format settled state aborted =
    record {
      handle = unwrap_or v.output 0;
      delivery_id = None;
      delivery_tag = Some tag;
      message_format = Some format;
      settled = settled;
      more = false;
      state = state;
      resume = true;
      aborted = aborted;
      batchable = false;
    }

-- the peer's place in a message, if it is found there
abbrev pub place_in : List ℕ → Place → Reached → Option ℕ
place_in pool m p = start_of (message pool m) p

-- where the payload starts: at the peer's place, or else at the message's start
abbrev pub start_in : List ℕ → Place → Reached → ℕ
start_in pool m p = unwrap_or (place_in pool m p) 0

-- the state that says so (Part 3, 3.4.1)
abbrev pub state_from : Option ℕ → Reached → DeliveryState
state_from None p = Received beginning
state_from (Some i) p = Received p

-- a message past its first k bytes
abbrev pub past : ℕ → Place → Place
past k m = record { start = m.start + k; len = m.len - k }

-- a resumed entry keeps its unsent part, and has no state
abbrev pub cut_to : ℕ → Entry → Entry
cut_to k e =
    record {
      tag = e.tag;
      entry = record { place = past k e.entry.place; state = None; message_format = e.entry.message_format; ticket = e.entry.ticket };
    }

abbrev pub resume_task : View → (pool : List ℕ) → Entry → Reached → Task
resume_task v pool e p =
    record {
      transfer = coming_back v e.tag e.entry.message_format (Some false) (Some (state_from (place_in pool e.entry.place p) p)) false;
      payload = past (start_in pool e.entry.place p) e.entry.place;
      joins = Some (cut_to (start_in pool e.entry.place p) e);
      ends = None;
    }

-- the whole message again, with the outcome that stands here; the entry keeps it
abbrev pub restate_task : View → Entry → Task
restate_task v e =
    record {
      transfer = coming_back v e.tag e.entry.message_format (Some false) e.entry.state false;
      payload = e.entry.place;
      joins = Some e;
      ends = None;
    }

abbrev pub nowhere : Place
nowhere = record { start = 0; len = 0 }

-- an aborted delivery is settled by that (Part 2, 2.7.5)
abbrev pub abort_task : View → Entry → Task
abort_task v e =
    record {
      transfer = coming_back v e.tag e.entry.message_format None None true;
      payload = nowhere;
      joins = None;
      ends = Some e.entry.ticket;
    }

-- a delivery that has ended: the peer is told its outcome
abbrev pub settling_task : View → DeliveryTag → (format : ℕ) → DeliveryState → Task
settling_task v tag format outcome =
    record {
      transfer = coming_back v tag format (Some true) (Some outcome) false;
      payload = nowhere;
      joins = None;
      ends = None;
    }

-- ---- a task's frames, refusals and what is left

abbrev pub task_payload : Carrier → Task → List ℕ
task_payload c t = message c.pool t.payload

abbrev pub task_frames : View → Carrier → Task → List Frame
task_frames v c t = cut v t.transfer (share_by v c t.transfer) (task_payload c t)

-- an entry that joins the table needs room, and a tag that is not there
abbrev pub joining_rows : Option Entry → View → List (Option SendError)
joining_rows None v = []
joining_rows (Some e) v = join_rows e.tag v

-- 14; 11, 13; 15, 17, 16
abbrev pub task_rows : View → Carrier → Task → List (Option SendError)
task_rows v c t =
    row (narrow v.settings.max_frame_size (measured c.bytes t.transfer) t.payload.len) fault.FrameTooSmall
    ∷ (joining_rows t.joins v ++ sink_row c.sink (share_by v c t.transfer) (task_payload c t) ∷ [])

abbrev pub joined : Option Entry → List Entry → List Entry
joined None xs = xs
joined (Some e) xs = xs ++ e ∷ []

-- its delivery ends, and no state is told
abbrev pub aborted : Option ℕ → List End
aborted None = []
aborted (Some n) = record { number = n; outcome = NoState } ∷ []

-- the task's turn: the item is off its list
abbrev pub tasked : View → List ResumingDelivery → Task → Turn
tasked v is t = holding v (record { table = joined t.joins v.held.table; resume = is; resend = v.held.resend }) (aborted t.ends)

-- ---- work: the first item

-- deliveries that come back may go out
abbrev pub working : View → Bool
working v = may_work v.state && handled v

-- in no run of a link that can be made is it (`never_in_the_way` in crates/runs/specs/Safe.antt)
abbrev pub resend_full : View → Bool
resend_full v = nat_le v.rooms.resend (length v.held.resend)

-- 7 for a message that goes out
abbrev pub item_rows : View → Carrier → List ResumingDelivery → List (Option SendError)
item_rows v c [] = []
item_rows v c (Resend e ∷ is) = row (resend_full v) fault.TableFull ∷ []
item_rows v c (Resume e p ∷ is) = row (outside e.entry.place (length c.pool)) fault.OutsidePool ∷ task_rows v c (resume_task v c.pool e p)
item_rows v c (Abort e ∷ is) = task_rows v c (abort_task v e)
item_rows v c (RestateOutcome e ∷ is) = row (outside e.entry.place (length c.pool)) fault.OutsidePool ∷ task_rows v c (restate_task v e)
item_rows v c (Settling t f o ∷ is) = task_rows v c (settling_task v t f o)

abbrev pub work_refusal : View → Carrier → Option SendError
work_refusal v c = first (row (not (working v)) (fault.LinkState IllegalState) ∷ item_rows v c v.held.resume)

abbrev pub item_turn : View → (pool : List ℕ) → List ResumingDelivery → Turn
item_turn v pool [] = stay v
item_turn v pool (Resend e ∷ is) = holding v (record { table = v.held.table; resume = is; resend = v.held.resend ++ e ∷ [] }) []
item_turn v pool (Resume e p ∷ is) = tasked v is (resume_task v pool e p)
item_turn v pool (Abort e ∷ is) = tasked v is (abort_task v e)
item_turn v pool (RestateOutcome e ∷ is) = tasked v is (restate_task v e)
item_turn v pool (Settling t f o ∷ is) = tasked v is (settling_task v t f o)

abbrev pub worked : View → Carrier → Turn
worked v c = item_turn v c.pool v.held.resume

abbrev pub item_frames : View → Carrier → List ResumingDelivery → List Frame
item_frames v c [] = []
item_frames v c (Resend e ∷ is) = []
item_frames v c (Resume e p ∷ is) = task_frames v c (resume_task v c.pool e p)
item_frames v c (Abort e ∷ is) = task_frames v c (abort_task v e)
item_frames v c (RestateOutcome e ∷ is) = task_frames v c (restate_task v e)
item_frames v c (Settling t f o ∷ is) = task_frames v c (settling_task v t f o)

abbrev pub worked_frames : View → Carrier → List Frame
worked_frames v c = item_frames v c v.held.resume

abbrev pub progress : {X : Type 0} → List X → Progress
progress [] = Done
progress (x ∷ xs) = Worked

abbrev pub work_answer : View → Carrier → Result Progress SendError
work_answer v c = gated (work_refusal v c) (progress v.held.resume)

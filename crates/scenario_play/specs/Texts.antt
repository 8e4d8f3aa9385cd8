-- What is printed of answers.
use Rattle.std.specs.Prelude.{ℕ, List, [], ◌∷◌, ◌++◌, length, Option, Some, None, codes, decimal, vec_items}
use Rattle.amqp.specs.declared.state.DeliveryState.{DeliveryState}
use Rattle.amqp.specs.declared.state.DeliveryState.TheVariants.{Received}
use Rattle.amqp.specs.States.{condition_number}
use Rattle.amqp.specs.Texts.{truth, state_text}
use Rattle.headers_text.specs.Shows.{tag_text, bytes_text, or_none}
use Rattle.link.specs.declared.delivery.Outcome.{Outcome}
use Rattle.link.specs.declared.delivery.Outcome.TheVariants as outcome
use Rattle.link.specs.declared.flow.LinkFlow.{LinkFlow}
use Rattle.link.specs.declared.resumption.ResumingDelivery.{ResumingDelivery}
use Rattle.link.specs.declared.resumption.ResumingDelivery.TheVariants.{Resend, Resume, Abort, RestateOutcome, Settling}
use Rattle.link.specs.Texts.{outcome_text}
use Rattle.link.specs.Views.{Entry}
use Rattle.unsettled.specs.declared.slot.Slot.{Slot}
use Rattle.scenario_text.specs.declared.command.EncoderForm.TheVariants.{Compact, Wide}
use Rattle.scenario_text.specs.Names.{state_name, exchange_name, progress_name}
use Rattle.scenario_text.specs.Reasons.{session_text}
use Rattle.spool.specs.Records.{code_of}
use Rattle.scenario_play.specs.declared.answer.Answer.{Answer}
use Rattle.scenario_play.specs.declared.answer.Answer.TheVariants as answer
use Rattle.scenario_play.specs.declared.answer.Refusal.{Refusal}
use Rattle.scenario_play.specs.declared.answer.Refusal.TheVariants.{Number, Stopped}
use Rattle.scenario_play.specs.declared.answer.Taken.{Taken}
use Rattle.scenario_play.specs.declared.snapshot.Occupied.{Occupied}
use Rattle.scenario_play.specs.declared.snapshot.Snapshot.{Snapshot}

-- ---- lists: each part with a blank before it, or in brackets with blanks between them

abbrev pub next : {A : Type 0} → (A → List ℕ) → A → List ℕ
next text x = codes " " ++ text x

abbrev pub spaced : {A : Type 0} → (A → List ℕ) → List A → List ℕ
spaced text [] = []
spaced text (x ∷ xs) = next text x ++ spaced text xs

abbrev pub bracketed : {A : Type 0} → (A → List ℕ) → List A → List ℕ
bracketed text [] = codes "[]"
bracketed text (x ∷ xs) = codes "[" ++ (text x ++ (spaced text xs ++ codes "]"))

abbrev pub named : {A : Type 0} → List ℕ → (A → List ℕ) → List A → List ℕ
named name text xs = name ++ bracketed text xs

-- ---- parts

abbrev pub pair_text : Slot (Option DeliveryState) → List ℕ
pair_text p = tag_text p.tag ++ (codes "=" ++ or_none state_text p.entry)

abbrev pub kept_text : Entry → List ℕ
kept_text e =
    tag_text e.tag
    ++ (codes ":" ++ (decimal e.entry.place.start
    ++ (codes "+" ++ (decimal e.entry.place.len
    ++ (codes ":" ++ (or_none state_text e.entry.state
    ++ (codes ":" ++ (decimal e.entry.message_format
    ++ (codes ":" ++ decimal e.entry.ticket)))))))))

abbrev pub returning_text : ResumingDelivery → List ℕ
returning_text (Resend e) = codes "resend:" ++ kept_text e
returning_text (Resume e peer) = codes "resume:" ++ (kept_text e ++ (codes ":" ++ state_text (Received peer)))
returning_text (Abort e) = codes "abort:" ++ kept_text e
returning_text (RestateOutcome e) = codes "restate:" ++ kept_text e
returning_text (Settling tag format state) = codes "settling:" ++ (tag_text tag ++ (codes ":" ++ (decimal format ++ (codes ":" ++ state_text state))))

-- no blank stands within a part
abbrev pub ending_text : Outcome → List ℕ
ending_text (outcome.State s) = outcome_text (outcome.State s)
ending_text outcome.NoState = outcome_text outcome.NoState
ending_text outcome.RemoteClosed = outcome_text outcome.RemoteClosed
ending_text (outcome.RemoteClosedWithError e) = codes "RemoteClosedWithError=" ++ decimal (condition_number e)

abbrev pub seat_text : Option Outcome → List ℕ
seat_text None = codes "pending"
seat_text (Some o) = ending_text o

abbrev pub occupied_text : Occupied → List ℕ
occupied_text x = decimal x.number ++ (codes ":" ++ seat_text x.outcome)

-- ---- a whole link

abbrev pub link_text : Snapshot → List ℕ
link_text x =
    state_name x.state
    ++ (codes " output=" ++ (or_none decimal x.output
    ++ (codes " input=" ++ (or_none decimal x.input
    ++ (codes " count=" ++ (decimal x.delivery_count
    ++ (codes " credit=" ++ (decimal x.link_credit
    ++ (codes " limit=" ++ decimal x.max_message_size)))))))))

abbrev pub snapshot_text : Snapshot → List ℕ
snapshot_text x =
    link_text x
    ++ (named (codes " table=") kept_text (vec_items x.table)
    ++ (named (codes " resume=") returning_text (vec_items x.resume)
    ++ (named (codes " resend=") kept_text (vec_items x.resend)
    ++ named (codes " seats=") occupied_text (vec_items x.seats))))

-- ---- answers

abbrev pub refusal_text : Refusal → List ℕ
refusal_text (Number n) = codes "refused " ++ decimal n
refusal_text (Stopped r) = codes "refused 15 " ++ session_text r

-- how a link stands, and what is asked of the other end
abbrev pub standing_text : LinkFlow → List ℕ
standing_text i =
    codes "handle=" ++ (or_none decimal i.handle
    ++ (codes " count=" ++ (or_none decimal i.delivery_count
    ++ (codes " credit=" ++ or_none decimal i.link_credit))))

abbrev pub asking_text : LinkFlow → List ℕ
asking_text i =
    codes " available=" ++ (or_none decimal i.available
    ++ (codes " drain=" ++ (truth i.drain
    ++ (codes " echo=" ++ truth i.echo))))

abbrev pub flow_text : LinkFlow → List ℕ
flow_text i = standing_text i ++ asking_text i

abbrev pub taken_text : Taken → List ℕ
taken_text t =
    codes "kind=" ++ (decimal (code_of t.kind)
    ++ (codes " handle=" ++ (decimal t.handle
    ++ (codes " header=" ++ (bytes_text (vec_items t.header)
    ++ (codes " payload=" ++ bytes_text (vec_items t.payload)))))))

abbrev pub told_text : Option Outcome → List ℕ
told_text None = codes "pending"
told_text (Some o) = outcome_text o

abbrev pub answer_text : Answer → List ℕ
answer_text answer.Made = codes "made"
answer_text (answer.Encoder Compact) = codes "compact"
answer_text (answer.Encoder Wide) = codes "wide"
answer_text (answer.Pool n) = decimal n ++ codes " bytes"
answer_text (answer.State s) = state_name s
answer_text (answer.Exchange x) = exchange_name x
answer_text (answer.Flow None) = codes "none"
answer_text (answer.Flow (Some i)) = flow_text i
answer_text (answer.Ticket n) = codes "ticket " ++ decimal n
answer_text (answer.Settled t) = codes "settled " ++ tag_text t
answer_text (answer.Echo b) = codes "echo " ++ truth b
answer_text answer.Done = codes "done"
answer_text (answer.Progress p) = progress_name p
answer_text (answer.RemoteDetached e) = codes "RemoteDetachedWithError " ++ decimal (condition_number e)
answer_text (answer.RemoteClosed e) = codes "RemoteClosedWithError " ++ decimal (condition_number e)
answer_text (answer.Outcome o) = told_text o
answer_text (answer.NoTicket n) = codes "no ticket " ++ decimal n
answer_text (answer.Frame None) = codes "none"
answer_text (answer.Frame (Some t)) = taken_text t
answer_text (answer.Records v) = bytes_text (vec_items v)
answer_text answer.Stopped = codes "stopped"
answer_text (answer.Shown None) = codes "none"
answer_text (answer.Shown (Some v)) = decimal (length (vec_items v)) ++ spaced pair_text (vec_items v)
answer_text (answer.Whole x) = snapshot_text x
answer_text (answer.Refused r) = refusal_text r

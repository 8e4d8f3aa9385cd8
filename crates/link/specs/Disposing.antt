-- Dispositions, the peer's and our own, and what tickets tell.
use Rattle.std.specs.Prelude.{ℕ, Bool, true, false, cond, not, ◌&&◌, ◌||◌, List, [], ◌∷◌, Some, None, Option, Result}
use Rattle.amqp.specs.declared.error.SinkError.{SinkError}
use Rattle.amqp.specs.declared.error.TicketError.{TicketError}
use Rattle.amqp.specs.declared.header.FrameKind.TheVariants as kind
use Rattle.amqp.specs.declared.header.Header.TheVariants as header
use Rattle.amqp.specs.declared.mode.ReceiverSettleMode.{ReceiverSettleMode}
use Rattle.amqp.specs.declared.mode.ReceiverSettleMode.TheVariants.{First, Second}
use Rattle.amqp.specs.declared.state.DeliveryState.{DeliveryState}
use Rattle.amqp.specs.declared.tag.DeliveryTag.{DeliveryTag}
use Rattle.sink.specs.Frames.{Frame, frame, Model, fault_at}
use Rattle.unsettled.specs.declared.message.UnsettledMessage.{UnsettledMessage}
use Rattle.unsettled.specs.Tables.{look, put_in, swap_removed}
use Rattle.link.specs.declared.delivery.Disposal.{Disposal}
use Rattle.link.specs.declared.delivery.Outcome.{Outcome}
use Rattle.link.specs.Outcomes.{ended, recorded, outcome_of}
use Rattle.link.specs.Seats.{seat_answer}
use Rattle.link.specs.Sending.{with_table}
use Rattle.link.specs.Settings.{settles}
use Rattle.link.specs.Turns.{Turn, stay, turned, holding}
use Rattle.link.specs.Views.{View}

-- an entry with a state told
abbrev pub recording : Option DeliveryState → UnsettledMessage → UnsettledMessage
recording s m = record { place = m.place; state = recorded m.state s; message_format = m.message_format; ticket = m.ticket }

-- an entry is taken out, and its delivery ends with this state or none
abbrev pub taken_out : DeliveryTag → Option DeliveryState → UnsettledMessage → View → Turn
taken_out t s m v =
    holding v (with_table (swap_removed t v.held.table) v.held) (record { number = m.ticket; outcome = outcome_of s } ∷ [])

-- the state told is recorded
abbrev pub noted : DeliveryTag → Option DeliveryState → UnsettledMessage → View → Turn
noted t s m v = holding v (with_table (put_in t (recording s m) v.held.table) v.held) []

abbrev pub disposed_as : (ends : Bool) → DeliveryTag → Option DeliveryState → UnsettledMessage → View → Turn
disposed_as true t s m v = taken_out t (recorded m.state s) m v
disposed_as false t s m v = noted t s m v

abbrev pub disposed_at : Option UnsettledMessage → DeliveryTag → (settled : Bool) → Option DeliveryState → View → Turn
disposed_at None t settled s v = stay v
disposed_at (Some m) t settled s v = disposed_as (settled || ended s) t s m v

-- a settled disposition, or one with an outcome, ends the delivery of its tag; an absent tag changes nothing
abbrev pub disposed : View → DeliveryTag → (settled : Bool) → Option DeliveryState → Turn
disposed v t settled s = disposed_at (look t v.held.table) t settled s v

abbrev pub settles_second : ReceiverSettleMode → Bool
settles_second First = false
settles_second Second = true

-- whether the peer waits for us to settle
abbrev pub settle_back : View → (settled : Bool) → Option DeliveryState → Bool
settle_back v settled s = not settled && (ended s && settles_second v.settings.rcv_settle_mode)

-- ---- our own disposition

-- the link settles every delivery as it sends it: then none is to be told of
abbrev pub sends_settled : View → Bool
sends_settled v = settles v.settings.snd_settle_mode (Some false)

-- the sink's refusals are the only ones
abbrev pub dispose_refusal : View → (sink : Model) → Option SinkError
dispose_refusal v sink = cond (sends_settled v) None (fault_at sink 0 1)

-- settled, the delivery ends with the state that was recorded; else the state told is recorded
abbrev pub disposed_here_as : (settled : Bool) → Disposal → UnsettledMessage → View → Turn
disposed_here_as true d m v = taken_out d.delivery_tag m.state m v
disposed_here_as false d m v = noted d.delivery_tag (Some d.state) m v

abbrev pub disposed_here_at : Option UnsettledMessage → Disposal → View → Turn
disposed_here_at None d v = stay v
disposed_here_at (Some m) d v = disposed_here_as d.settled d m v

abbrev pub disposed_here : View → Disposal → Turn
disposed_here v d = cond (sends_settled v) (stay v) (disposed_here_at (look d.delivery_tag v.held.table) d v)

-- one frame: role sender, first the given id, no last
abbrev pub disposal_frame : Disposal → Frame
disposal_frame d =
    frame kind.Disposition 0 (header.Disposition (record { first = d.delivery_id; settled = d.settled; state = Some d.state; batchable = d.batchable })) []

-- an absent tag's goes out too
abbrev pub disposed_frames : View → Disposal → List Frame
disposed_frames v d = cond (sends_settled v) [] (disposal_frame d ∷ [])

-- ---- tickets

abbrev pub looked : View → (number : ℕ) → Result (Option Outcome) TicketError
looked v n = seat_answer n v.seats

-- the ticket is spent; its delivery stays
abbrev pub collected : View → (number : ℕ) → Turn
collected v n = turned v v.flow v.held [] [] (n ∷ [])

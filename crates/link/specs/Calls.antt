-- All calls of a link in one: what each does, whether it is refused, and what it puts into the sink.
use Rattle.std.specs.Prelude.{ℕ, Bool, false, not, ◌||◌, List, [], is_some, Option}
use Rattle.amqp.specs.declared.condition.AmqpError.{AmqpError}
use Rattle.amqp.specs.declared.state.DeliveryState.{DeliveryState}
use Rattle.amqp.specs.declared.tag.DeliveryTag.{DeliveryTag}
use Rattle.sink.specs.Frames.{Frame, Model}
use Rattle.link.specs.declared.attach.Attach.{Attach as RemoteAttach}
use Rattle.link.specs.declared.delivery.Disposal.{Disposal}
use Rattle.link.specs.declared.delivery.Sendable.{Sendable}
use Rattle.link.specs.declared.flow.LinkFlow.{LinkFlow}
use Rattle.link.specs.Attaching.{open_refusal, opened, attach_refusal, late_refusal, attached}
use Rattle.link.specs.Credit.{flowed}
use Rattle.link.specs.Detaching.{detach_refusal, detached}
use Rattle.link.specs.Disposing.{disposed, dispose_refusal, disposed_here, disposed_frames, collected}
use Rattle.link.specs.Resending.{resend_refusal, resent, resent_frames}
use Rattle.link.specs.Rows.{unless}
use Rattle.link.specs.Seats.{seat_of}
use Rattle.link.specs.Sending.{Carrier, send_refusal, sent, sent_frames}
use Rattle.link.specs.Turns.{Turn, stay, turned, landed}
use Rattle.link.specs.Views.{View}
use Rattle.link.specs.Working.{work_refusal, worked, worked_frames}

pub data Call : Type 0 where
  Open : (handle : ℕ) (incomplete : Bool) → Call
  Attach : RemoteAttach → (pool : List ℕ) → Call
  Flow : LinkFlow → Call
  Send : Carrier → Sendable → Call
  Disposition : DeliveryTag → (settled : Bool) → Option DeliveryState → Call
  Dispose : (sink : Model) → Disposal → Call
  Work : Carrier → Call
  Resend : Carrier → Call
  Detach : (closed : Bool) → Option AmqpError → Call
  Look : (number : ℕ) → Call
  Collect : (number : ℕ) → Call

abbrev pub turn : View → Call → Turn
turn v (Open handle incomplete) = unless (open_refusal v incomplete) (stay v) (opened v handle incomplete)
turn v (Attach a pool) = unless (attach_refusal v a pool) (stay v) (attached v a)
turn v (Flow i) = turned v (flowed i v.flow) v.held [] [] []
turn v (Send c m) = unless (send_refusal v c m) (stay v) (sent v m)
turn v (Disposition t settled s) = disposed v t settled s
turn v (Dispose sink d) = unless (dispose_refusal v sink) (stay v) (disposed_here v d)
turn v (Work c) = unless (work_refusal v c) (stay v) (worked v c)
turn v (Resend c) = unless (resend_refusal v c) (stay v) (resent v)
turn v (Detach closed error) = unless (detach_refusal v closed) (stay v) (detached v closed error)
turn v (Look n) = stay v
turn v (Collect n) = collected v n

-- what a call makes of the link; a refused one leaves it (attach by 3 and 4: with their traces)
abbrev pub step : View → Call → View
step v c = landed v (turn v c)

-- whether it is refused; look and collect where no seat has the number
abbrev pub refused : View → Call → Bool
refused v (Open handle incomplete) = is_some (open_refusal v incomplete)
refused v (Attach a pool) = is_some (attach_refusal v a pool) || is_some (late_refusal v a)
refused v (Flow i) = false
refused v (Send c m) = is_some (send_refusal v c m)
refused v (Disposition t settled s) = false
refused v (Dispose sink d) = is_some (dispose_refusal v sink)
refused v (Work c) = is_some (work_refusal v c)
refused v (Resend c) = is_some (resend_refusal v c)
refused v (Detach closed error) = is_some (detach_refusal v closed)
refused v (Look n) = not (is_some (seat_of n v.seats))
refused v (Collect n) = not (is_some (seat_of n v.seats))

-- the frames that a call puts
abbrev pub put_by : View → Call → List Frame
put_by v (Open handle incomplete) = []
put_by v (Attach a pool) = []
put_by v (Flow i) = []
put_by v (Send c m) = unless (send_refusal v c m) [] (sent_frames v c m)
put_by v (Disposition t settled s) = []
put_by v (Dispose sink d) = unless (dispose_refusal v sink) [] (disposed_frames v d)
put_by v (Work c) = unless (work_refusal v c) [] (worked_frames v c)
put_by v (Resend c) = unless (resend_refusal v c) [] (resent_frames v c)
put_by v (Detach closed error) = []
put_by v (Look n) = []
put_by v (Collect n) = []

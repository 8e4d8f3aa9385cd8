-- Every refusal's number, and what becomes of a sink's refusal in a call that puts frames.
use Rattle.std.specs.Prelude.{ℕ, Some, None, Option}
use Rattle.amqp.specs.declared.error.MakeError.{MakeError}
use Rattle.amqp.specs.declared.error.MakeError.TheVariants.{Sizes}
use Rattle.amqp.specs.declared.error.LinkStateError.{LinkStateError}
use Rattle.amqp.specs.declared.error.LinkStateError.TheVariants as state
use Rattle.amqp.specs.declared.error.SinkError.{SinkError}
use Rattle.amqp.specs.declared.error.SinkError.TheVariants as sink
use Rattle.amqp.specs.declared.error.SendError.{SendError}
use Rattle.amqp.specs.declared.error.SendError.TheVariants as send
use Rattle.amqp.specs.declared.error.SenderAttachError.{SenderAttachError}
use Rattle.amqp.specs.declared.error.SenderAttachError.TheVariants as attach
use Rattle.amqp.specs.declared.error.ApplyRemoteDetachError.{ApplyRemoteDetachError}
use Rattle.amqp.specs.declared.error.ApplyRemoteDetachError.TheVariants as detach
use Rattle.amqp.specs.declared.error.TicketError.{TicketError}
use Rattle.amqp.specs.declared.error.TicketError.TheVariants as ticket
use Rattle.amqp.specs.declared.error.MemoryError.{MemoryError}
use Rattle.amqp.specs.declared.error.MemoryError.TheVariants as memory

abbrev pub make_number : MakeError → ℕ
make_number Sizes = 1

abbrev pub state_number : LinkStateError → ℕ
state_number state.IllegalState = 2
state_number (state.SessionStopped reason) = 15

abbrev pub sink_number : SinkError → ℕ
sink_number (sink.SessionStopped reason) = 15
sink_number sink.PayloadTooWide = 17
sink_number sink.SinkFull = 16

abbrev pub send_number : SendError → ℕ
send_number (send.LinkState e) = state_number e
send_number send.OutsidePool = 7
send_number send.MessageSizeExceeded = 8
send_number send.ListsNotEmpty = 9
send_number send.NoCredit = 10
send_number send.TableFull = 11
send_number send.NoSeat = 12
send_number send.TagInTable = 13
send_number send.FrameTooSmall = 14
send_number send.SinkFull = 16
send_number send.PayloadTooWide = 17

abbrev pub attach_number : SenderAttachError → ℕ
attach_number attach.IllegalState = 2
attach_number attach.IncomingTargetIsNone = 3
attach_number attach.SndSettleModeNotSupported = 4
attach_number attach.IllegalTag = 5
attach_number attach.TooManyUnsettled = 6
attach_number attach.OutsidePool = 7

-- a detach that was applied is not refused, whatever error it brought
abbrev pub detach_number : ApplyRemoteDetachError → Option ℕ
detach_number detach.IllegalState = Some 2
detach_number detach.TableFull = Some 11
detach_number detach.TagInTable = Some 13
detach_number (detach.RemoteDetachedWithError c) = None
detach_number (detach.RemoteClosedWithError c) = None

abbrev pub ticket_number : TicketError → ℕ
ticket_number ticket.NoSeat = 19

abbrev pub memory_number : MemoryError → ℕ
memory_number memory.TooShort = 20

-- a sink's refusal in a call that puts frames: its number and its reason stay
abbrev pub of_sink : SinkError → SendError
of_sink (sink.SessionStopped reason) = send.LinkState (state.SessionStopped reason)
of_sink sink.PayloadTooWide = send.PayloadTooWide
of_sink sink.SinkFull = send.SinkFull

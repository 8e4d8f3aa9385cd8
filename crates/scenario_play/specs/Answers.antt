-- What a line answers, by what its call answered.
use Rattle.std.specs.Prelude.{Option, Result, Ok, Err}
use Rattle.amqp.specs.declared.error.ApplyRemoteDetachError.{ApplyRemoteDetachError}
use Rattle.amqp.specs.declared.error.ApplyRemoteDetachError.TheVariants as detach
use Rattle.amqp.specs.declared.error.LinkStateError.{LinkStateError}
use Rattle.amqp.specs.declared.error.LinkStateError.TheVariants as state
use Rattle.amqp.specs.declared.error.MakeError.{MakeError}
use Rattle.amqp.specs.declared.error.SendError.{SendError}
use Rattle.amqp.specs.declared.error.SendError.TheVariants as send
use Rattle.amqp.specs.declared.error.SenderAttachError.{SenderAttachError}
use Rattle.amqp.specs.declared.error.SinkError.{SinkError}
use Rattle.amqp.specs.declared.error.SinkError.TheVariants as sink
use Rattle.amqp.specs.declared.error.TicketError.{TicketError}
use Rattle.amqp.specs.Refusals.{make_number, attach_number, ticket_number}
use Rattle.link.specs.declared.attach.SenderAttachExchange.{SenderAttachExchange}
use Rattle.link.specs.declared.delivery.Outcome.{Outcome}
use Rattle.link.specs.declared.resumption.Progress.{Progress}
use Rattle.link.specs.declared.state.LinkState.{LinkState}
use Rattle.link.specs.Sending.{Sent, ticket, settled}
use Rattle.scenario_play.specs.declared.answer.Answer.{Answer}
use Rattle.scenario_play.specs.declared.answer.Answer.TheVariants as answer
use Rattle.scenario_play.specs.declared.answer.Refusal.{Refusal}
use Rattle.scenario_play.specs.declared.answer.Refusal.TheVariants.{Number, Stopped}

-- ---- refusals: a number, and the reason of a stopped sink

abbrev pub of_state : LinkStateError → Refusal
of_state (state.SessionStopped reason) = Stopped reason
of_state state.IllegalState = Number 2

abbrev pub of_sink : SinkError → Refusal
of_sink (sink.SessionStopped reason) = Stopped reason
of_sink sink.PayloadTooWide = Number 17
of_sink sink.SinkFull = Number 16

abbrev pub of_send : SendError → Refusal
of_send (send.LinkState e) = of_state e
of_send send.OutsidePool = Number 7
of_send send.MessageSizeExceeded = Number 8
of_send send.ListsNotEmpty = Number 9
of_send send.NoCredit = Number 10
of_send send.TableFull = Number 11
of_send send.NoSeat = Number 12
of_send send.TagInTable = Number 13
of_send send.FrameTooSmall = Number 14
of_send send.SinkFull = Number 16
of_send send.PayloadTooWide = Number 17

-- ---- answers

abbrev pub opened : Result LinkState LinkStateError → Answer
opened (Ok s) = answer.State s
opened (Err e) = answer.Refused (of_state e)

abbrev pub attached : Result SenderAttachExchange SenderAttachError → Answer
attached (Ok x) = answer.Exchange x
attached (Err e) = answer.Refused (Number (attach_number e))

abbrev pub sent : Result Sent SendError → Answer
sent (Ok (ticket n)) = answer.Ticket n
sent (Ok (settled t)) = answer.Settled t
sent (Err e) = answer.Refused (of_send e)

abbrev pub disposed : Result (Unit {0}) SinkError → Answer
disposed (Ok _) = answer.Done
disposed (Err e) = answer.Refused (of_sink e)

abbrev pub stepped : Result Progress SendError → Answer
stepped (Ok p) = answer.Progress p
stepped (Err e) = answer.Refused (of_send e)

-- an error that a detach brought is no refusal
abbrev pub detached : Result (Unit {0}) ApplyRemoteDetachError → Answer
detached (Ok _) = answer.Done
detached (Err (detach.RemoteDetachedWithError e)) = answer.RemoteDetached e
detached (Err (detach.RemoteClosedWithError e)) = answer.RemoteClosed e
detached (Err detach.IllegalState) = answer.Refused (Number 2)
detached (Err detach.TableFull) = answer.Refused (Number 11)
detached (Err detach.TagInTable) = answer.Refused (Number 13)

abbrev pub told : Result (Option Outcome) TicketError → Answer
told (Ok o) = answer.Outcome o
told (Err e) = answer.Refused (Number (ticket_number e))

abbrev pub unmade : MakeError → Answer
unmade e = answer.Refused (Number (make_number e))

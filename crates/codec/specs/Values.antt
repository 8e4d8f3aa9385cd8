-- The AMQP value of each header (Part 2, 2.7.5, 2.7.6 and 2.8.14; Part 3, 3.4).
use Rattle.std.specs.Prelude.{ℕ, Bool, true, false, List, Some, None, codes, Option}
use Rattle.amqp.specs.Tags.{tag_bytes}
use Rattle.amqp.specs.declared.condition.AmqpError.{AmqpError}
use Rattle.amqp.specs.declared.condition.AmqpError.TheVariants.{InternalError, NotFound, UnauthorizedAccess, DecodeError, ResourceLimitExceeded, NotAllowed, InvalidField, NotImplemented, ResourceLocked, PreconditionFailed, ResourceDeleted, IllegalState, FrameSizeTooSmall}
use Rattle.amqp.specs.declared.state.Received.{Received as Reached}
use Rattle.amqp.specs.declared.state.DeliveryState.{DeliveryState}
use Rattle.amqp.specs.declared.state.DeliveryState.TheVariants.{Received, Accepted, Rejected, Released, Modified}
use Rattle.amqp.specs.declared.tag.DeliveryTag.{DeliveryTag}
use Rattle.amqp.specs.declared.header.Transfer.{Transfer}
use Rattle.amqp.specs.declared.header.Disposition.{Disposition}
use Rattle.amqp.specs.declared.header.Header.{Header}
use Rattle.amqp.specs.declared.header.Header.TheVariants as header
use Rattle.codec.specs.Amqp.{Val, Vals, nil, cons, null, bool, uint, ulong, binary, symbol, list, described}

abbrev pub optional : {A : Type 0} → (A → Val) → Option A → Val
optional f None = null
optional f (Some x) = f x

-- a boolean that is false where it is absent: a terse form leaves a false out
abbrev pub flag : Bool → Bool → Val
flag true true = bool true
flag true false = null
flag false b = bool b

abbrev pub tag_value : DeliveryTag → Val
tag_value t = binary (tag_bytes t)

-- Part 2, 2.8.15
abbrev pub condition_name : AmqpError → List ℕ
condition_name InternalError = codes "amqp:internal-error"
condition_name NotFound = codes "amqp:not-found"
condition_name UnauthorizedAccess = codes "amqp:unauthorized-access"
condition_name DecodeError = codes "amqp:decode-error"
condition_name ResourceLimitExceeded = codes "amqp:resource-limit-exceeded"
condition_name NotAllowed = codes "amqp:not-allowed"
condition_name InvalidField = codes "amqp:invalid-field"
condition_name NotImplemented = codes "amqp:not-implemented"
condition_name ResourceLocked = codes "amqp:resource-locked"
condition_name PreconditionFailed = codes "amqp:precondition-failed"
condition_name ResourceDeleted = codes "amqp:resource-deleted"
condition_name IllegalState = codes "amqp:illegal-state"
condition_name FrameSizeTooSmall = codes "amqp:frame-size-too-small"

-- condition, description, info
abbrev pub error_fields : AmqpError → Vals
error_fields k = cons (symbol (condition_name k)) (cons null (cons null nil))

abbrev pub error_value : AmqpError → Val
error_value k = described (ulong 0x1d) (list (error_fields k))

-- section-number, section-offset
abbrev pub received_fields : Reached → Vals
received_fields p = cons (uint p.section_number) (cons (ulong p.section_offset) nil)

-- delivery-failed, undeliverable-here, message-annotations
abbrev pub modified_fields : Option Bool → Option Bool → Vals
modified_fields failed here = cons (optional bool failed) (cons (optional bool here) (cons null nil))

abbrev pub state_value : DeliveryState → Val
state_value (Received p) = described (ulong 0x23) (list (received_fields p))
state_value Accepted = described (ulong 0x24) (list nil)
state_value (Rejected e) = described (ulong 0x25) (list (cons (optional error_value e) nil))
state_value Released = described (ulong 0x26) (list nil)
state_value (Modified failed here) = described (ulong 0x27) (list (modified_fields failed here))

-- handle, delivery-id, delivery-tag, message-format, settled, more, rcv-settle-mode, state, resume, aborted, batchable
abbrev pub transfer_fields : Bool → Transfer → Vals
transfer_fields terse h =
    cons (uint h.handle) (cons (optional uint h.delivery_id) (cons (optional tag_value h.delivery_tag)
    (cons (optional uint h.message_format) (cons (optional bool h.settled) (cons (flag terse h.more) (cons null
    (cons (optional state_value h.state) (cons (flag terse h.resume) (cons (flag terse h.aborted) (cons (flag terse h.batchable) nil))))))))))

-- role, first, last, settled, state, batchable: the role of a sender is false
abbrev pub disposition_fields : Bool → Disposition → Vals
disposition_fields terse h =
    cons (bool false) (cons (uint h.first) (cons null (cons (flag terse h.settled) (cons (optional state_value h.state)
    (cons (flag terse h.batchable) nil)))))

-- in a form that is terse or not
abbrev pub header_value : Bool → Header → Val
header_value terse (header.Transfer h) = described (ulong 0x14) (list (transfer_fields terse h))
header_value terse (header.Disposition h) = described (ulong 0x15) (list (disposition_fields terse h))

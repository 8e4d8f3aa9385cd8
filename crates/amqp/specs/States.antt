-- Error conditions and delivery states.
use Rattle.std.specs.Prelude.{ℕ, Bool, true, false, ◌&&◌, ◌||◌, ◌==◌, nat_le, nat_lt}
use Rattle.amqp.specs.declared.condition.AmqpError.{AmqpError}
use Rattle.amqp.specs.declared.condition.AmqpError.TheVariants.{InternalError, NotFound, UnauthorizedAccess, DecodeError, ResourceLimitExceeded, NotAllowed, InvalidField, NotImplemented, ResourceLocked, PreconditionFailed, ResourceDeleted, IllegalState, FrameSizeTooSmall}
use Rattle.amqp.specs.declared.state.Received.{Received as Reached}
use Rattle.amqp.specs.declared.state.DeliveryState.{DeliveryState}
use Rattle.amqp.specs.declared.state.DeliveryState.TheVariants.{Received, Accepted, Rejected, Released, Modified}

-- the order of Part 2, 2.8.15
abbrev pub condition_number : AmqpError → ℕ
condition_number InternalError = 1
condition_number NotFound = 2
condition_number UnauthorizedAccess = 3
condition_number DecodeError = 4
condition_number ResourceLimitExceeded = 5
condition_number NotAllowed = 6
condition_number InvalidField = 7
condition_number NotImplemented = 8
condition_number ResourceLocked = 9
condition_number PreconditionFailed = 10
condition_number ResourceDeleted = 11
condition_number IllegalState = 12
condition_number FrameSizeTooSmall = 13

-- all states but received are outcomes (Part 3, 3.4)
abbrev pub terminal : DeliveryState → Bool
terminal (Received p) = false
terminal Accepted = true
terminal (Rejected e) = true
terminal Released = true
terminal (Modified f u) = true

-- by section, then by offset
abbrev pub no_further : Reached → Reached → Bool
no_further p q =
    nat_lt p.section_number q.section_number
    || (p.section_number == q.section_number && nat_le p.section_offset q.section_offset)

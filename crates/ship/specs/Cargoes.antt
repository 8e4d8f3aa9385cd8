-- What is kept of files whose messages lie in one pool.
use Rattle.std.specs.Prelude.{ℕ, Bool, not, ◌&&◌, cond, List, length, None, Some, Option, is_none}
use Rattle.std.specs.List.{list_any}
use Rattle.std.specs.Str.{bytes_eq}
use Rattle.amqp.specs.declared.condition.AmqpError.TheVariants.{DecodeError}
use Rattle.amqp.specs.declared.state.DeliveryState.{DeliveryState}
use Rattle.amqp.specs.declared.state.DeliveryState.TheVariants.{Accepted, Rejected}
use Rattle.link.specs.Sending.{message}
use Rattle.unsettled.specs.Messages.{outside}
use Rattle.link.specs.declared.delivery.Outcome.{Outcome}
use Rattle.shipping.specs.Sections.{data_section}
use Rattle.ship.specs.declared.breaking.cargo.Consignment.{Consignment}

-- the first outcome that its ticket tells stays, with how many frames brought what the archive answered for
abbrev pub learned : (known told : Option Outcome) → (frames : ℕ) → Consignment → Consignment
learned (Some o) told n f = f
learned None None n f = f
learned None (Some o) n f = record { place = f.place; bytes = f.bytes; frames = n; outcome = Some o }

-- a file that is not yet sent, and whose message was loaded behind what the pool held
abbrev pub loaded : (pool file : List ℕ) → Consignment
loaded pool file = record { place = record { start = length pool; len = length (data_section file) }; bytes = length file; frames = 0; outcome = None }

-- these bytes are its message, which lies in the pool
abbrev pub is_own : (pool bytes : List ℕ) → Consignment → Bool
is_own pool bytes f = not (outside f.place (length pool)) && bytes_eq bytes (message pool f.place)

-- and no outcome of it is known
abbrev pub awaits : (pool bytes : List ℕ) → Consignment → Bool
awaits pool bytes f = is_none f.outcome && is_own pool bytes f

-- accepted as the message of a file that is not through, or else rejected
abbrev pub judged : (pool : List ℕ) → List Consignment → (bytes : List ℕ) → DeliveryState
judged pool fs bytes = cond (list_any (awaits pool bytes) fs) Accepted (Rejected (Some DecodeError))

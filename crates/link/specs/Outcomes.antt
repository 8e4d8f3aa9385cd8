-- Recorded states, and how deliveries end (Part 3, 3.4).
use Rattle.std.specs.Prelude.{Bool, false, cond, Some, None, Option}
use Rattle.amqp.specs.declared.state.DeliveryState.{DeliveryState}
use Rattle.amqp.specs.States.{terminal}
use Rattle.link.specs.declared.delivery.Outcome.{Outcome}
use Rattle.link.specs.declared.delivery.Outcome.TheVariants.{State, NoState}

abbrev pub ended : Option DeliveryState → Bool
ended None = false
ended (Some s) = terminal s

-- an outcome once told stays; anything else gives way to what is told
abbrev pub recorded : Option DeliveryState → Option DeliveryState → Option DeliveryState
recorded known told = cond (ended known) known told

abbrev pub outcome_of : Option DeliveryState → Outcome
outcome_of None = NoState
outcome_of (Some s) = State s

-- What is printed of values, and which of them there are.
use Rattle.std.specs.Prelude.{◌≡◌, ℕ, Bool, ◌^◌, ◌<◌, ◌≤◌, List, [], ◌∷◌, ◌⊎◌, slice_index, Option, None, Some, All, codes, decimal}
use Rattle.amqp.specs.declared.condition.AmqpError.{AmqpError}
use Rattle.amqp.specs.declared.mode.SenderSettleMode.{SenderSettleMode}
use Rattle.amqp.specs.declared.mode.SenderSettleMode.TheVariants as sender
use Rattle.amqp.specs.declared.mode.ReceiverSettleMode.{ReceiverSettleMode}
use Rattle.amqp.specs.declared.mode.ReceiverSettleMode.TheVariants as receiver
use Rattle.amqp.specs.declared.state.DeliveryState.{DeliveryState}
use Rattle.amqp.specs.declared.state.DeliveryState.TheVariants.{Received, Accepted, Rejected, Released, Modified}
use Rattle.amqp.specs.declared.state.Received.{Received as Place}
use Rattle.amqp.specs.States.{condition_number}
use Rattle.amqp.specs.Texts.{condition_in, flag_text}
use Rattle.headers_text.specs.Hex.{pairs}
use Rattle.scenario_text.specs.Reading.{closed, in_two}
use Rattle.link.specs.declared.delivery.Outcome.{Outcome}
use Rattle.link.specs.declared.delivery.Outcome.TheVariants.{State, NoState, RemoteClosed, RemoteClosedWithError}

-- a zero alone, or another digit first
abbrev pub HasPlainStart : List ℕ → Type 0
HasPlainStart bs = (bs ≡ codes "0") ⊎ ((49 ≤ slice_index bs 0) × (slice_index bs 0 ≤ 57))

abbrev pub error_text : AmqpError → List ℕ
error_text e = decimal (condition_number e)

-- a condition, or 0 for none
abbrev pub condition_text : Option AmqpError → List ℕ
condition_text e = decimal (condition_in e)

abbrev pub sender_text : SenderSettleMode → List ℕ
sender_text sender.Unsettled = codes "unsettled"
sender_text sender.Settled = codes "settled"
sender_text sender.Mixed = codes "mixed"

abbrev pub receiver_text : ReceiverSettleMode → List ℕ
receiver_text receiver.First = codes "first"
receiver_text receiver.Second = codes "second"

-- bytes in digits, or a dash for none
abbrev pub bytes_text : List ℕ → List ℕ
bytes_text [] = codes "-"
bytes_text (b ∷ bs) = pairs (b ∷ bs)

abbrev pub AreBytes : List ℕ → Type 0
AreBytes bs = All (λ b. b < 256) bs

abbrev pub IsPlace : Place → Type 0
IsPlace p = (p.section_number < 2 ^ 32) × (p.section_offset < 2 ^ 64)

abbrev pub place_text : Place → List ℕ
place_text p = closed (codes "received(") (in_two (decimal p.section_number) (decimal p.section_offset))

abbrev pub rejected_text : Option AmqpError → List ℕ
rejected_text e = closed (codes "rejected(") (condition_text e)

abbrev pub modified_text : Option Bool × Option Bool → List ℕ
modified_text marks = closed (codes "modified(") (in_two (flag_text marks.0) (flag_text marks.1))

abbrev pub IsState : DeliveryState → Type 0
IsState (Received p) = IsPlace p
IsState Accepted = Unit {0}
IsState (Rejected e) = Unit {0}
IsState Released = Unit {0}
IsState (Modified failed undeliverable) = Unit {0}

-- an outcome that has a state has one of these
abbrev pub IsOutcome : Outcome → Type 0
IsOutcome NoState = Unit {0}
IsOutcome (State s) = IsState s
IsOutcome RemoteClosed = Unit {0}
IsOutcome (RemoteClosedWithError e) = Unit {0}

-- a value that may be absent
abbrev pub IfThere : {A : Type 0} → (A → Type 0) → Option A → Type 0
IfThere Fits None = Unit {0}
IfThere Fits (Some x) = Fits x

-- What the archive keeps of the frames that come, and how it judges them.
use Rattle.std.specs.Prelude.{◌≡◌, ℕ, ◌+◌, ◌%◌, ◌^◌, false, List, [], ◌∷◌, ◌++◌, Some, None, Option, ◌≢◌}
use Rattle.amqp.specs.declared.condition.AmqpError.TheVariants.{DecodeError}
use Rattle.amqp.specs.declared.header.FrameKind.{FrameKind}
use Rattle.amqp.specs.declared.header.FrameKind.TheVariants as kind
use Rattle.amqp.specs.declared.header.Header.{Header}
use Rattle.amqp.specs.declared.header.Header.TheVariants as header
use Rattle.amqp.specs.declared.state.DeliveryState.{DeliveryState}
use Rattle.amqp.specs.declared.state.DeliveryState.TheVariants.{Accepted, Rejected}
use Rattle.amqp.specs.declared.tag.DeliveryTag.{DeliveryTag}
use Rattle.link.specs.declared.flow.LinkFlow.{LinkFlow}
use Rattle.sink.specs.Frames.{Frame}

-- how many deliveries have begun, the tag of the last, and what has come of it
pub record Intake : Type 0 where
  pub deliveries : ℕ
  pub tag : Option DeliveryTag
  pub joined : List ℕ

-- nothing has come
abbrev pub untouched : Intake
untouched = record { deliveries = 0; tag = None; joined = [] }

abbrev pub tag_in : Header → Option DeliveryTag
tag_in (header.Transfer t) = t.delivery_tag
tag_in (header.Disposition d) = None

-- a first frame begins anew, a continuation is appended, and a disposition brings no payload
abbrev pub took : FrameKind → Header → List ℕ → Intake → Intake
took kind.First h payload a = record { deliveries = (a.deliveries + 1) % 2 ^ 32; tag = tag_in h; joined = payload }
took kind.Continuation h payload a = record { deliveries = a.deliveries; tag = a.tag; joined = a.joined ++ payload }
took kind.Disposition h payload a = a

-- these frames come, in order
abbrev pub took_all : List Frame → Intake → Intake
took_all [] a = a
took_all (f ∷ fs) a = took_all fs (took f.kind f.header f.payload a)

-- a flow that grants this credit from the deliveries that have begun
abbrev pub granting : (credit : ℕ) → Intake → LinkFlow
granting credit a =
    record {
      handle = None;
      delivery_count = Some a.deliveries;
      link_credit = Some credit;
      available = None;
      drain = false;
      echo = false;
    }

-- what came is accepted exactly where it is the message, and else rejected as undecodable
pub record Judged (came message : List ℕ) (r : DeliveryState) : Type 0 where
  pub same : came ≡ message → r ≡ Accepted
  pub other : (came ≢ message) → r ≡ Rejected (Some DecodeError)

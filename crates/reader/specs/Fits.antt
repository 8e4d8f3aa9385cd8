-- Headers whose numbers fit their types.
use Rattle.std.specs.Prelude.{◌^◌, ◌<◌, Some, None, Option}
use Rattle.amqp.specs.declared.state.DeliveryState.{DeliveryState}
use Rattle.amqp.specs.declared.state.DeliveryState.TheVariants.{Received, Accepted, Rejected, Released, Modified}
use Rattle.amqp.specs.declared.header.Transfer.{Transfer}
use Rattle.amqp.specs.declared.header.Disposition.{Disposition}
use Rattle.amqp.specs.declared.header.Header.{Header}
use Rattle.amqp.specs.declared.header.Header.TheVariants as header

abbrev pub Within : {A : Type 0} → (A → Type 0) → Option A → Type 0
Within V None = Unit {0}
Within V (Some x) = V x

abbrev pub Any : {A : Type 0} → A → Type 0
Any x = Unit {0}

abbrev pub StateFits : DeliveryState → Type 0
StateFits (Received p) = (p.section_number < 2 ^ 32) × (p.section_offset < 2 ^ 64)
StateFits Accepted = Unit {0}
StateFits (Rejected e) = Unit {0}
StateFits Released = Unit {0}
StateFits (Modified f u) = Unit {0}

pub record TransferFits (h : Transfer) : Type 0 where
  pub handle : h.handle < 2 ^ 32
  pub id : Within (λ x. x < 2 ^ 32) h.delivery_id
  pub format : Within (λ x. x < 2 ^ 32) h.message_format
  pub state : Within StateFits h.state

pub record DispositionFits (h : Disposition) : Type 0 where
  pub first : h.first < 2 ^ 32
  pub state : Within StateFits h.state

abbrev pub Fits : Header → Type 0
Fits (header.Transfer h) = TransferFits h
Fits (header.Disposition h) = DispositionFits h

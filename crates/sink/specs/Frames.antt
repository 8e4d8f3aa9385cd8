-- What a sink means, and what a put answers.
use Rattle.std.specs.Prelude.{◌≡◌, ℕ, ◌+◌, ◌≤◌, Bool, true, false, List, [], ◌++◌, length, Some, None, Ok, Err, Option, Result, nat_lt}
use Rattle.amqp.specs.declared.header.Header.{Header}
use Rattle.amqp.specs.declared.header.FrameKind.{FrameKind}
use Rattle.amqp.specs.declared.stop.SessionStopReason.{SessionStopReason}
use Rattle.amqp.specs.declared.error.SinkError.{SinkError}
use Rattle.sink.specs.declared.frame.Frame.{Frame as Given}
use Rattle.amqp.specs.declared.error.SinkError.TheVariants.{SessionStopped, PayloadTooWide, SinkFull}

-- a frame: its kind, the input handle, the header and the payload
pub record Frame : Type 0 where
  pub kind : FrameKind
  pub handle : ℕ
  pub header : Header
  pub payload : List ℕ

abbrev pub frame : FrameKind → ℕ → Header → List ℕ → Frame
frame k n h p = record { kind = k; handle = n; header = h; payload = p }

-- what a program's frame is as one that waits
abbrev pub waiting_of : Given → Frame
waiting_of f = frame f.kind f.handle f.header f.payload.now

-- what is refused, in this order: a stopped sink, a part too wide, too few places
abbrev pub refused : Option SessionStopReason → Bool → Bool → Option SinkError
refused (Some r) wide few = Some (SessionStopped r)
refused None true few = Some PayloadTooWide
refused None false true = Some SinkFull
refused None false false = None

-- the fault, if any, of putting `count` frames, the widest of `width` bytes, into a sink with this stop reason, widest payload and vacancy
abbrev pub fault_of : Option SessionStopReason → (widest vacancy width count : ℕ) → Option SinkError
fault_of s widest vacancy width count = refused s (nat_lt widest width) (nat_lt vacancy count)

-- the answer with that fault or none
abbrev pub answer : {E : Type 0} → Option E → Result (Unit {0}) E
answer (Some e) = Err e
answer None = Ok tt

-- what a sink means
pub record Model : Type 0 where
  pub waiting : List Frame
  pub vacancy : ℕ
  pub widest : ℕ
  pub stopped : Option SessionStopReason

-- nothing waits, and nothing is stopped
abbrev pub empty : (vacancy widest : ℕ) → Model
empty vacancy widest = record { waiting = []; vacancy = vacancy; widest = widest; stopped = None }

-- with this stop reason, and all else as it was
abbrev pub stopped_by : SessionStopReason → Model → Model
stopped_by reason m = record { waiting = m.waiting; vacancy = m.vacancy; widest = m.widest; stopped = Some reason }

abbrev pub fault_at : Model → (width count : ℕ) → Option SinkError
fault_at m width count = fault_of m.stopped m.widest m.vacancy width count

-- the fault of putting this one frame
abbrev pub put_fault : Model → Given → Option SinkError
put_fault m f = fault_at m (length f.payload.now) 1

-- from `a` to `b` these frames, `count` of them, joined the end
pub record Grown (a b : Model) (frames : List Frame) (count : ℕ) : Type 0 where
  pub waiting : b.waiting ≡ a.waiting ++ frames
  pub low : a.vacancy ≤ b.vacancy + count
  pub high : b.vacancy ≤ a.vacancy
  pub widest : b.widest ≡ a.widest
  pub stopped : b.stopped ≡ a.stopped

-- a refusal changes nothing
abbrev pub After : {E : Type 0} → Option E → Model → Model → List Frame → ℕ → Type 0
After (Some e) a b frames count = b ≡ a
After None a b frames count = Grown a b frames count

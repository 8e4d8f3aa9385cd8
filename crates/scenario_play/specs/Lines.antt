-- What the lines answer that show what a player has, and what they leave.
use Rattle.std.specs.Prelude.{◌≡◌, ℕ, ◌≤◌, ◌<◌, Bool, false, List, length, take, replicate, Option, Some, None, Result, Ok, Err, vec_items}
use Rattle.amqp.specs.declared.error.MemoryError.{MemoryError}
use Rattle.link.specs.Views.{View}
use Rattle.queue.specs.declared.place.Place.{Place}
use Rattle.spool.specs.Records.{records}
use Rattle.unsettled.specs.declared.message.UnsettledMessage.{UnsettledMessage}
use Rattle.unsettled.specs.Shown.{shown_pairs, shown_answer, Tells}
use Rattle.scenario_text.specs.declared.command.EncoderForm.{EncoderForm}
use Rattle.scenario_text.specs.declared.command.PoolSource.{PoolSource}
use Rattle.scenario_text.specs.declared.command.PoolSource.TheVariants.{Digits, Repeat, File}
use Rattle.scenario_text.specs.declared.fault.Fault.TheVariants.{OutOfMemory}
use Rattle.scenario_text.specs.Values.{AreBytes, bytes_text}
use Rattle.scenario_play.specs.declared.answer.Answer.{Answer}
use Rattle.scenario_play.specs.declared.answer.Answer.TheVariants as answer
use Rattle.scenario_play.specs.declared.answer.Refusal.TheVariants.{Number}
use Rattle.scenario_play.specs.declared.answer.Taken.{Taken}
use Rattle.scenario_play.specs.declared.trouble.Trouble.{Trouble}
use Rattle.scenario_play.specs.declared.trouble.Trouble.TheVariants as trouble
use Rattle.scenario_play.specs.Chosens.{bytes_of}
use Rattle.scenario_play.specs.Outlets.{taken_by, left_by, read_by, Emptied}
use Rattle.scenario_play.specs.Snapshots.{ShowsLink}
use Rattle.scenario_play.specs.Scenes.{Scene, with_sink, with_pool}

-- ---- the pool

-- `holds` says which bytes a file may have
abbrev pub FilledFrom : (holds : List ℕ → List ℕ → Type 0) → PoolSource → List ℕ → Type 0
FilledFrom holds (Digits text) pool = text.now ≡ bytes_text pool
FilledFrom holds (Repeat count byte) pool = pool ≡ replicate count byte
FilledFrom holds (File path) pool = holds path.now pool

pub record FillsLine (holds : List ℕ → List ℕ → Type 0) (source : PoolSource) (s : Scene) (a : Answer) (t : Scene) : Type 0 where
  pub answer : a ≡ answer.Pool (length t.pool)
  pub pool : FilledFrom holds source t.pool
  pub bound : length t.pool ≤ 70000000
  pub rest : t ≡ with_pool t.pool s

-- digits that are not those of any bytes
abbrev pub IsNoBytes : PoolSource → Type 0
IsNoBytes (Digits text) = (bs : List ℕ) → AreBytes bs → text.now ≡ bytes_text bs → ⊥
IsNoBytes x = ⊥

abbrev pub IsFile : PoolSource → Type 0
IsFile (File path) = Unit {0}
IsFile x = ⊥

-- the pool would be too large
pub record TooLarge (holds : List ℕ → List ℕ → Type 0) (source : PoolSource) : Type 0 where
  pub pool : List ℕ
  pub filled : FilledFrom holds source pool
  pub above : 70000000 < length pool

-- why a pool is not filled
abbrev pub NoPool : (holds : List ℕ → List ℕ → Type 0) → PoolSource → Trouble → Type 0
NoPool holds source trouble.Memory = Unit {0}
NoPool holds source (trouble.Text f) = (f ≡ OutOfMemory → ⊥) → IsNoBytes source
NoPool holds source trouble.File = IsFile source
NoPool holds source trouble.LargePool = TooLarge holds source
NoPool holds source e = ⊥

-- ---- the sink

-- why a sink is not read: for want of memory, or because it is of the other kind
abbrev pub NotRead : (framewise other : Bool) → Trouble → Type 0
NotRead framewise other e = (e ≡ trouble.Memory → ⊥) → (framewise ≡ other) × (e ≡ trouble.WrongSink)

-- a frame's parts, its header in an encoder's bytes, and its payload at the front of a reader's memory
pub record TellsFrame (p : Place) (form : EncoderForm) (out : List ℕ) (t : Taken) : Type 0 where
  pub kind : t.kind ≡ p.kind
  pub handle : t.handle ≡ p.handle
  pub header : vec_items t.header ≡ bytes_of form p.header
  pub payload : vec_items t.payload ≡ take p.size out

abbrev pub TellsTaken : Answer → Option Place → EncoderForm → List ℕ → Type 0
TellsTaken (answer.Frame None) None form out = Unit {0}
TellsTaken (answer.Frame (Some t)) (Some p) form out = TellsFrame p form out t
TellsTaken _ o form out = ⊥

-- the oldest frame is taken, through the reader's memory `out`
pub record TakesLine (framewise : Bool) (s : Scene) (a : Answer) (t : Scene) : Type 0 where
  pub out : List ℕ
  pub room : length out ≡ s.room
  pub place : Option Place
  pub taken : taken_by framewise s.sink.waiting s.room ≡ Ok place
  pub answer : TellsTaken a place s.encoder (read_by framewise s.sink.waiting out)
  pub scene : t ≡ with_sink (left_by framewise s.sink s.room) s

abbrev pub records_in : Answer → Option (List ℕ)
records_in (answer.Records v) = Some (vec_items v)
records_in _ = None

pub record EmptiesLine (framewise : Bool) (s : Scene) (a : Answer) (t : Scene) : Type 0 where
  pub whole : framewise ≡ false
  pub records : records_in a ≡ Some (records s.sink.waiting)
  pub sink : Emptied s.sink t.sink
  pub rest : t ≡ with_sink t.sink s

-- ---- what is shown

-- what an answer shows tells of the table
abbrev pub ShowsTable : Answer → (denominator : ℕ) → Scene → Type 0
ShowsTable (answer.Shown (Some v)) denominator s = Tells (λ (m : UnsettledMessage). m.state) denominator s.link.held.table (vec_items v)
ShowsTable _ denominator s = ⊥

-- so many pairs, or none, or a refusal
abbrev pub ShowsAs : Result (Option ℕ) MemoryError → (denominator : ℕ) → Scene → Answer → Type 0
ShowsAs (Err e) denominator s a = a ≡ answer.Refused (Number 20)
ShowsAs (Ok None) denominator s a = a ≡ answer.Shown None
ShowsAs (Ok (Some n)) denominator s a = ShowsTable a denominator s

abbrev pub ShowsLine : (reattaching : Bool) → (denominator room : ℕ) → Scene → Answer → Type 0
ShowsLine reattaching denominator room s a =
    ShowsAs (shown_answer room (shown_pairs (λ (m : UnsettledMessage). m.state) reattaching denominator s.link.held.table)) denominator s a

abbrev pub StatesLine : Answer → View → Type 0
StatesLine (answer.Whole x) v = ShowsLink v x
StatesLine _ v = ⊥

-- What a scenario's sinks do besides taking frames: one is read frame by frame, another whole.
use Rattle.std.specs.Prelude.{◌≡◌, ℕ, Bool, true, false, List, [], Option, Result, Ok, Err}
use Rattle.queue.specs.declared.place.Place.{Place}
use Rattle.queue.specs.Reading.{taken, left, read_into}
use Rattle.amqp.specs.declared.error.MemoryError.{MemoryError}
use Rattle.sink.specs.Frames.{Frame, Model}
use Rattle.scenario_play.specs.declared.trouble.Trouble.{Trouble}
use Rattle.scenario_play.specs.declared.trouble.Trouble.TheVariants.{Memory, WrongSink}

-- memory that is too short is told as memory that is wanting
abbrev pub in_memory : Result (Option Place) MemoryError → Result (Option Place) Trouble
in_memory (Ok o) = Ok o
in_memory (Err e) = Err Memory

abbrev pub taken_by : (framewise : Bool) → List Frame → (room : ℕ) → Result (Option Place) Trouble
taken_by true fs room = in_memory (taken fs room)
taken_by false fs room = Err WrongSink

abbrev pub left_by : (framewise : Bool) → Model → (room : ℕ) → Model
left_by true m room = left m room
left_by false m room = m

abbrev pub read_by : (framewise : Bool) → List Frame → List ℕ → List ℕ
read_by true fs out = read_into fs out
read_by false fs out = out

-- nothing waits any more, there is room again, and all else is as it was
pub record Emptied (s t : Model) : Type 0 where
  pub waiting : t.waiting ≡ []
  pub widest : t.widest ≡ s.widest
  pub stopped : t.stopped ≡ s.stopped

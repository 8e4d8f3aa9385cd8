-- A sink that is read out.
use Rattle.std.specs.Prelude.{◌≡◌, ◌+◌, ◌≤◌, [], length}
use Rattle.sink.specs.Frames.{Model}

-- nothing waits any more in a queue, and all its places are free
abbrev pub emptied : Model → Model
emptied m = record { waiting = []; vacancy = m.vacancy + length m.waiting; widest = m.widest; stopped = m.stopped }

-- nothing waits any more, there is no less room, and all else is as it was
pub record Emptied (s t : Model) : Type 0 where
  pub waiting : t.waiting ≡ []
  pub vacancy : s.vacancy ≤ t.vacancy
  pub widest : t.widest ≡ s.widest
  pub stopped : t.stopped ≡ s.stopped

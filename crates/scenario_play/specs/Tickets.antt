-- The tickets that a run holds.
use Rattle.std.specs.Prelude.{ℕ, Bool, List, [], ◌∷◌, Option, Some, None, position, remove, ◌==◌}
use Rattle.std.specs.List.{slice_get}
use Rattle.link.specs.Calls.{Collect, step}
use Rattle.link.specs.Views.{View}
use Rattle.sender.specs.declared.ticket.Ticket.{Ticket}

abbrev pub is_of : ℕ → Ticket → Bool
is_of number t = t.number == number

abbrev pub at : Option ℕ → List Ticket → Option Ticket
at None ts = None
at (Some i) ts = slice_get ts i

-- the first of this number
abbrev pub first_of : ℕ → List Ticket → Option Ticket
first_of number ts = at (position (is_of number) ts) ts

abbrev pub without_at : Option ℕ → List Ticket → List Ticket
without_at None ts = ts
without_at (Some i) ts = remove ts i

-- without the first of this number
abbrev pub without : ℕ → List Ticket → List Ticket
without number ts = without_at (position (is_of number) ts) ts

-- a link whose tickets were collected, the last one first
abbrev pub all_collected : List Ticket → View → View
all_collected [] v = v
all_collected (t ∷ ts) v = step (all_collected ts v) (Collect t.number)

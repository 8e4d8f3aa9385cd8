-- A list in lent memory.
use Rattle.std.specs.Prelude.{ℕ, List, length, take, drop}
use Rattle.unsettled.specs.declared.worklist.Worklist.{Worklist}

-- what a list holds, in order
abbrev pub items : {X : Type 0} → Worklist X → List X
items w = take w.len (drop w.start w.slots.now)

-- how many items it has memory for
abbrev pub space : {X : Type 0} → Worklist X → ℕ
space w = length w.slots.now

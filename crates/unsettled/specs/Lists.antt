-- What becomes of a list where one element passes a test.
use Rattle.std.specs.Prelude.{Bool, cond, List, [], ◌∷◌}

-- the first element that passes is replaced
abbrev pub replaced : {X : Type 0} → (X → Bool) → X → List X → List X
replaced p y [] = []
replaced p y (x ∷ xs) = cond (p x) (y ∷ xs) (x ∷ replaced p y xs)

-- Refusals as rows, each a test with its refusal: the first whose test passes counts.
use Rattle.std.specs.Prelude.{Bool, cond, List, [], ◌∷◌, Some, None, Ok, Err, Option, Result}
use Rattle.std.specs.Option.{option_or}

abbrev pub row : {E : Type 0} → Bool → E → Option E
row test e = cond test (Some e) None

abbrev pub first : {E : Type 0} → List (Option E) → Option E
first [] = None
first (o ∷ os) = option_or o (first os)

-- the answer of a call: a refusal, or what an accepted call answers
abbrev pub gated : {X E : Type 0} → Option E → X → Result X E
gated (Some e) x = Err e
gated None x = Ok x

-- what a call leaves: a refused one the first, an accepted one the second
abbrev pub unless : {X E : Type 0} → Option E → X → X → X
unless (Some e) before after = before
unless None before after = after

-- what holds of an accepted call
abbrev pub Accepted : {E : Type 0} → Option E → Type 0 → Type 0
Accepted (Some e) P = Unit {0}
Accepted None P = P

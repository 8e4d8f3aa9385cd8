-- What it means that a peer's list is read.
use Rattle.std.specs.Prelude.{◌≡◌, ℕ, List, [], ◌∷◌, ◌++◌, Result, OnOk, OnErr}
use Rattle.scenario_text.specs.declared.fault.Fault.{Fault}
use Rattle.scenario_text.specs.Commands.{Pair, pair_text, list_text}

-- the list has the pairs that the text writes, or none where the text has a fault
pub record ReadsList (text : List ℕ) (list : List Pair) (r : Result (Unit {0}) Fault) : Type 0 where
  pub printed : OnOk r (text ≡ list_text list)
  pub empty : OnErr r (list ≡ [])

-- one more pair, which the part writes
pub record Adds (part : List ℕ) (old new : List Pair) : Type 0 where
  pub pair : Pair
  pub written : part ≡ pair_text pair
  pub after : new ≡ old ++ pair ∷ []

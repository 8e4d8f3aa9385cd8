-- What a line is parsed to.
use Rattle.std.specs.Prelude.{◌≡◌, ℕ, ◌⊎◌, List, [], ◌∷◌, ◌++◌, Option, None, Some, Result, Ok, Err, codes}
use Rattle.scenario_text.specs.declared.command.Command.{Command}
use Rattle.scenario_text.specs.declared.fault.Fault.{Fault}
use Rattle.scenario_text.specs.declared.fault.Fault.TheVariants.{OutOfMemory}
use Rattle.scenario_text.specs.Commands.{Pair, IsCommand, IsPlain, ListIsOf, words_of}

-- no words, or a comment: the first word begins with a hash
abbrev pub IsPassed : List (List ℕ) → Type 0
IsPassed ws = (ws ≡ []) ⊎ ((rest : List ℕ) × (more : List (List ℕ)) × (ws ≡ (codes "#" ++ rest) ∷ more))

-- the words are no plain command's
abbrev pub IsNoCommand : List (List ℕ) → Type 0
IsNoCommand ws = (x : Command) → IsCommand x → IsPlain x → ws ≡ words_of x [] → ⊥

-- the words are a command's, and more
pub record HasMore (ws : List (List ℕ)) : Type 0 where
  pub command : Command
  pub pairs : List Pair
  pub more : List (List ℕ)
  pub is : IsCommand command
  pub some : more ≡ [] → ⊥
  pub words : ws ≡ words_of command pairs ++ more

-- the words of a line are a command's, with the pairs of its list, and no pairs where it has no list; or the line is passed over; or, if memory is there, the words are no plain command's, or a command's and more
abbrev pub Parsed : List (List ℕ) → List Pair → Result (Option Command) Fault → Type 0
Parsed ws list (Ok (Some x)) = IsCommand x × ListIsOf x list × (ws ≡ words_of x list)
Parsed ws list (Ok None) = IsPassed ws × (list ≡ [])
Parsed ws list (Err f) = ((f ≡ OutOfMemory → ⊥) → IsNoCommand ws) ⊎ HasMore ws

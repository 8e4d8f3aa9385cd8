-- A line of a scenario played: its command carried out, and what is printed of it.
use Rattle.std.specs.Prelude.{◌≡◌, ℕ, ◌⊎◌, Bool, List, [], ◌∷◌, ◌++◌, codes, Option, Some, Ok}
use Rattle.std.specs.Io.KnownBytes.{Appends}
use Rattle.std.specs.List.{slice_get}
use Rattle.scenario_text.specs.declared.command.Command.{Command}
use Rattle.scenario_text.specs.Commands.{Pair, IsCommand, ListIsOf, words_of}
use Rattle.scenario_text.specs.Parsing.{IsPassed}
use Rattle.scenario_text.specs.Words.{words}
use Rattle.scenario_play.specs.declared.answer.Answer.{Answer}
use Rattle.scenario_play.specs.Performing.{Performs}
use Rattle.scenario_play.specs.Scenes.{Scene}
use Rattle.scenario_play.specs.Texts.{answer_text}

-- a command's name and its answer
abbrev pub answer_line : List ℕ → Answer → List ℕ
answer_line name a = name ++ (codes ": " ++ (answer_text a ++ 10 ∷ []))

-- the line's command was carried out from `s` to `t`, and its name and answer joined what was written before
pub record Acts (framewise : Bool) (holds : List ℕ → List ℕ → Type 0) (line : List ℕ) (s t : Scene) (before after : Option (List ℕ)) : Type 0 where
  pub command : Command
  pub pairs : List Pair
  pub name : List ℕ
  pub answer : Answer
  pub is : IsCommand command
  pub list : ListIsOf command pairs
  pub words : words line ≡ words_of command pairs
  pub first : slice_get (words_of command pairs) 0 ≡ Some name
  pub performs : Performs framewise holds command pairs s (Ok answer) t
  pub printed : Appends before after (answer_line name answer)

-- a remark leaves all as it is
abbrev pub PlaysLine : (framewise : Bool) → (holds : List ℕ → List ℕ → Type 0) → (line : List ℕ) → (s t : Scene) → (before after : Option (List ℕ)) → Type 0
PlaysLine framewise holds line s t before after =
    Acts framewise holds line s t before after ⊎ (IsPassed (words line) × (t ≡ s) × (after ≡ before))

-- A line that is refused.
use Rattle.std.proofs.Common.{◌≡◌, ℕ, List, [], ◌∷◌, ◌++◌, inl, inr, Option, Result, Ok, Err, sym, ◌∙◌}
use Rattle.std.specs.Result.{IsErr}
use Rattle.std.proofs.lemmas.List.{append-nil}
use Rattle.scenario_text.specs.declared.command.Command.{Command}
use Rattle.scenario_text.specs.declared.fault.Fault.{Fault}
use Rattle.scenario_text.specs.declared.fault.Fault.TheVariants.{OutOfMemory}
use Rattle.scenario_text.specs.Commands.{Pair, IsCommand, IsPlain, words_of}
use Rattle.scenario_text.specs.Parsing.{Parsed}

pub no_command : (line : List (List ℕ)) (name : List ℕ) (old : List (List ℕ)) (list : List Pair) (r : Result (Option Command) Fault) (f g : Fault) → r ≡ Err f → f ≡ g → line ≡ name ∷ old → ((g ≡ OutOfMemory → ⊥) → (x : Command) (rest : List (List ℕ)) → IsCommand x → IsPlain x → name ∷ old ≡ words_of x [] ++ rest → ⊥) → Parsed line list r
no_command line name old list (Ok x) f g e same l h = cc
no_command line name old list (Err k) f g e same l h =
    let s : k ≡ g = cc in
    inl (λ there x is plain w. let n = append-nil (words_of x []) in h (λ m. there (s ∙ m)) x [] is plain (sym l ∙ w ∙ sym n))

pub too_many : (line : List (List ℕ)) (name : List ℕ) (old new : List (List ℕ)) (list : List Pair) (r : Result (Option Command) Fault) (x : Command) → IsErr r → line ≡ name ∷ old → IsCommand x → name ∷ old ≡ words_of x list ++ new → (new ≡ [] → ⊥) → Parsed line list r
too_many line name old new list (Ok y) x err l is w some = cc
too_many line name old new list (Err f) x err l is w some =
    inr (record { command = x; pairs = list; more = new; is = is; some = some; words = l ∙ w })

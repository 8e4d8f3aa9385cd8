-- The words of a line.
use Rattle.std.specs.Prelude.{◌≡◌, ℕ, Bool, true, false, List, [], ◌∷◌, ◌++◌, filter, codes, Result, IfOk, IfErr, OnErr}
use Rattle.std.specs.Char.{is_ascii_whitespace}
use Rattle.std.specs.List.{slice_split}
use Rattle.std.specs.Str.Iter.{split_ascii_whitespace_text}
use Rattle.scenario_text.specs.declared.fault.Fault.{Fault}
use Rattle.scenario_text.specs.declared.fault.Fault.TheVariants.{OutOfMemory}
use Rattle.scenario_text.specs.declared.words.Words.{Words}

abbrev pub is_word : List ℕ → Bool
is_word [] = false
is_word (c ∷ cs) = true

-- what stands between blanks
unfoldable pub words : List ℕ → List (List ℕ)
words line = filter is_word (slice_split is_ascii_whitespace line)

-- those that are left
unfoldable pub left : Words → List (List ℕ)
left w = words (split_ascii_whitespace_text w.rest)

unfoldable pub keyed : List ℕ → List ℕ → List ℕ
keyed key value = key ++ (codes "=" ++ value)

-- r is what was taken off the words `old`, where `text` says the words of a value: they stood in front, and `new` is left; or no value's words stand in front
pub record Takes {A : Type 0} (text : A → List (List ℕ)) (Fits : A → Type 0) (old new : List (List ℕ)) (r : Result A Fault) : Type 0 where
  pub taken : IfOk r (λ x. Fits x × (old ≡ text x ++ new))
  pub refused : OnErr r ((x : A) (rest : List (List ℕ)) → Fits x → old ≡ text x ++ rest → ⊥)

-- a value after its key
abbrev pub field : {A : Type 0} → List ℕ → (A → List ℕ) → A → List (List ℕ)
field key text x = keyed key (text x) ∷ []

-- the same, but for want of memory
pub record TakesOrNoMemory {A : Type 0} (text : A → List (List ℕ)) (Fits : A → Type 0) (old new : List (List ℕ)) (r : Result A Fault) : Type 0 where
  pub taken : IfOk r (λ x. Fits x × (old ≡ text x ++ new))
  pub refused : IfErr r (λ f. (f ≡ OutOfMemory → ⊥) → (x : A) (rest : List (List ℕ)) → Fits x → old ≡ text x ++ rest → ⊥)

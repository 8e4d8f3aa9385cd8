-- The lines of a scenario's bytes, and those that say something.
use Rattle.std.specs.Prelude.{◌≡◌, ℕ, Bool, true, false, not, List, [], ◌∷◌, filter, drop, Option, Some, None, ◌==◌, if◌then◌else◌}
use Rattle.std.specs.Char.{is_ascii_whitespace}
use Rattle.std.specs.List.{prefix_len, slice_get}

-- ---- lines

abbrev pub begun : ℕ → List (List ℕ) → List (List ℕ)
begun x [] = (x ∷ []) ∷ []
begun x (l ∷ ls) = (x ∷ l) ∷ ls

-- each with the line feed that ends it
abbrev pub lines_of : List ℕ → List (List ℕ)
lines_of [] = []
lines_of (x ∷ xs) = if x == 10 then (x ∷ []) ∷ lines_of xs else begun x (lines_of xs)

-- ---- blank lines and remarks

-- no byte, or a hash
abbrev pub begins_remark : Option ℕ → Bool
begins_remark None = true
begins_remark (Some c) = c == 35

-- the first byte behind its blanks
abbrev pub says_nothing : List ℕ → Bool
says_nothing line = begins_remark (slice_get (drop (prefix_len is_ascii_whitespace line) line) 0)

abbrev pub tells : List ℕ → Bool
tells line = not (says_nothing line)

abbrev pub told_lines : List ℕ → List (List ℕ)
told_lines xs = filter tells (lines_of xs)

-- ---- reading them, where a reader's bytes are known

-- the same lines are still to be told
abbrev pub SameTold : Option (List ℕ) → Option (List ℕ) → Type 0
SameTold None new = Unit {0}
SameTold (Some xs) None = ⊥
SameTold (Some xs) (Some ys) = told_lines xs ≡ told_lines ys

-- the next line that says something was read, and `new` is left; or there is none
abbrev pub Advances : (more : Bool) → (line : List ℕ) → (old new : Option (List ℕ)) → Type 0
Advances more line None new = Unit {0}
Advances true line (Some xs) None = ⊥
Advances true line (Some xs) (Some ys) = told_lines xs ≡ line ∷ told_lines ys
Advances false line (Some xs) new = told_lines xs ≡ []

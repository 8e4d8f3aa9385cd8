-- What the code reads of its input, as readers tell it.
use Rattle.std.specs.Prelude.{◌≡◌, ℕ, List, Ok, Err, Result}
use Rattle.std.specs.Borrow.{Bor}
use Rattle.codec.specs.declared.error.ReadError.{ReadError}
use Rattle.codec.specs.declared.error.ReadError.TheVariants.{NotEncoded}
use Rattle.reader.specs.declared.input.Input.{Input}
use Rattle.reader.specs.Places.{Cursor, Reader}
use Rattle.reader.specs.Numbers.{spelled}

-- where the input is among the fields of a list
abbrev pub cursor : Input → Cursor
cursor i = record { at = i.at; left = i.left }

abbrev pub fault : ReadError → ℕ
fault (NotEncoded at) = at

-- what was read, told by f, or the place of the fault
abbrev pub outcome : {A B : Type 0} → Result A ReadError → (A → B) → Result B ℕ
outcome (Ok x) f = Ok (f x)
outcome (Err e) f = Err (fault e)

-- r, told by f, is this, and the bytes of the input stay
abbrev pub Tells : {A B : Type 0} → Input → Input → Result A ReadError → (A → B) → Result B ℕ → Type 0
Tells old new r f s = (outcome r f ≡ s) × (new.src.now ≡ old.src.now)

-- from old to new what the reader reads was read
abbrev pub Reads : {A : Type 0} → Reader A → Input → Input → Result A ReadError → Type 0
Reads R old new r = Tells old new r (λ x. (x, new.at)) (R old.src.now old.at)

-- the bytes that the reader finds were read
abbrev pub Spells : Reader ℕ → Input → Input → Result (Bor (List ℕ)) ReadError → Type 0
Spells R old new r = Tells old new r (λ s. (s.now, new.at)) (spelled R old.src.now old.at)

-- all before the fields of a list was read
abbrev pub Opens : (List ℕ → ℕ → Result Cursor ℕ) → Input → Input → Result Unit ReadError → Type 0
Opens R old new r = Tells old new r (λ _. cursor new) (R old.src.now old.at)

-- a field was read
abbrev pub Takes : {A : Type 0} → (List ℕ → Cursor → Result (A × Cursor) ℕ) → Input → Input → Result A ReadError → Type 0
Takes R old new r = Tells old new r (λ x. (x, cursor new)) (R old.src.now (cursor old))

-- a field with no value was read
abbrev pub Skips : (List ℕ → Cursor → Result Cursor ℕ) → Input → Input → Result Unit ReadError → Type 0
Skips R old new r = Tells old new r (λ _. cursor new) (R old.src.now (cursor old))

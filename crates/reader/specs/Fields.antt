-- The fields of a list, read one by one.
use Rattle.std.specs.Prelude.{ℕ, ◌+◌, ◌-◌, Bool, true, false, cond, List, length, Some, None, Ok, Err, Option, Result, ◌==◌, nat_lt, slice_index}
use Rattle.reader.specs.Places.{Cursor, Found, Reader, then, value_place}
use Rattle.reader.specs.Reading.{Reading}

-- what was read of one field, before so many others
abbrev pub field_of : {A : Type 0} → ℕ → Found A → Result (A × Cursor) ℕ
field_of left (Ok p) = Ok (p.0, record { at = p.1; left = left })
field_of left (Err e) = Err e

-- a field that has to be there
unfoldable pub must_at : {A : Type 0} → Reader A → List ℕ → Cursor → Result (A × Cursor) ℕ
must_at R src c = field_of (c.left - 1) (R src c.at)

-- is a field absent, and what comes after it then: past the last, or a null, which a terse form does not have in the last place
abbrev pub absent_at : Bool → List ℕ → Cursor → Result (Option Cursor) ℕ
absent_at terse src c =
    cond (c.left == 0) (Ok (Some c))
    (cond (nat_lt c.at (length src))
    (cond (slice_index src c.at == 0x40)
    (cond (cond terse (c.left == 1) false) (Err c.at) (Ok (Some (record { at = c.at + 1; left = c.left - 1 }))))
    (Ok None))
    (Err c.at))

abbrev pub some_of : {A : Type 0} → Result (A × Cursor) ℕ → Result (Option A × Cursor) ℕ
some_of (Ok p) = Ok (Some p.0, p.1)
some_of (Err e) = Err e

abbrev pub unless : {A : Type 0} → Option Cursor → Result (Option A × Cursor) ℕ → Result (Option A × Cursor) ℕ
unless (Some d) r = Ok (None, d)
unless None r = r

-- a field that may be absent
unfoldable pub may_at : {A : Type 0} → Bool → Reader A → List ℕ → Cursor → Result (Option A × Cursor) ℕ
may_at terse R src c = then (absent_at terse src c) (λ a. unless a (some_of (must_at R src c)))

abbrev pub past_null : ℕ → Option Cursor → Result Cursor ℕ
past_null at (Some d) = Ok d
past_null at None = Err at

-- a field that is always absent
unfoldable pub null_at : Bool → List ℕ → Cursor → Result Cursor ℕ
null_at terse src c = then (absent_at terse src c) (λ a. past_null c.at a)

-- a boolean that is false where it is absent: a terse form has no false there
abbrev pub set_of : ℕ → Option Bool × Cursor → Result (Bool × Cursor) ℕ
set_of at (None, d) = Ok (false, d)
set_of at (Some true, d) = Ok (true, d)
set_of at (Some false, d) = Err (value_place at d.at)

unfoldable pub flag_at : Reading → List ℕ → Cursor → Result (Bool × Cursor) ℕ
flag_at R src c =
    cond R.form.terse (then (may_at R.form.terse R.bool_at src c) (λ p. set_of c.at p)) (must_at R.bool_at src c)

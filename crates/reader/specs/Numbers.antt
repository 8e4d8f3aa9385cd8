-- Reading bytes and numbers at a place.
use Rattle.std.specs.Prelude.{ℕ, ◌+◌, cond, List, length, take, drop, Ok, Err, Result, ◌==◌, nat_lt, slice_index}
use Rattle.reader.specs.Places.{Cursor, Found, Reader, then, coded_at, sized_of, number}

abbrev pub peek_at : List ℕ → ℕ → Result ℕ ℕ
peek_at src at = cond (nat_lt at (length src)) (Ok (slice_index src at)) (Err at)

abbrev pub next_at : Reader ℕ
next_at src at = cond (nat_lt at (length src)) (Ok (slice_index src at, at + 1)) (Err at)

-- so many bytes
abbrev pub taken_at : ℕ → Reader (List ℕ)
taken_at n src at = cond (nat_lt (length src) (at + n)) (Err (length src)) (Ok (take n (drop at src), at + n))

abbrev pub whole_at : ℕ → Reader ℕ
whole_at width src at = cond (nat_lt (length src) (at + width)) (Err (length src)) (Ok (number width src at, at + width))

-- a number that is not below the least
abbrev pub from_at : ℕ → ℕ → Reader ℕ
from_at width least src at =
    cond (nat_lt (length src) (at + width)) (Err (length src))
    (cond (nat_lt (number width src at) least) (Err at) (Ok (number width src at, at + width)))

-- bytes after their code and their number
abbrev pub sized_at : ℕ → ℕ → ℕ → Reader ℕ
sized_at width code most src at = then (coded_at code width src at) (λ p. sized_of src most (number width src p) p (p + width))

-- the bytes that were found
abbrev pub bytes_of : List ℕ → Found ℕ → Found (List ℕ)
bytes_of src (Ok s) = Ok (take s.0 (drop s.1 src), s.1 + s.0)
bytes_of src (Err e) = Err e

abbrev pub spelled : Reader ℕ → Reader (List ℕ)
spelled R src at = bytes_of src (R src at)

-- the number of the fields of a list, and where they begin
abbrev pub count_of : ℕ → ℕ → ℕ → List ℕ → ℕ → Result Cursor ℕ
count_of width least most src at =
    then (whole_at width src at) (λ p. cond (nat_lt p.0 least) (Err at) (cond (nat_lt most p.0) (Err at) (Ok (record { at = p.1; left = p.0 }))))

-- a code alone, for a list with no fields
abbrev pub none_of : ℕ → List ℕ → ℕ → Result Cursor ℕ
none_of least src at = cond (least == 0) (Ok (record { at = at + 1; left = 0 })) (Err at)

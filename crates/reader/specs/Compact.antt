-- How the compact form is read.
use Rattle.std.specs.Prelude.{ℕ, ◌+◌, Bool, true, false, cond, List, length, Ok, Err, Result, ◌==◌, nat_lt, slice_index}
use Rattle.codec.specs.Compact.{compact_form}
use Rattle.reader.specs.Places.{Cursor, Reader, then, coded_at}
use Rattle.reader.specs.Numbers.{from_at, sized_at}
use Rattle.reader.specs.Reading.{Reading}

-- one byte, which is not 0: a 0 has a shorter code
abbrev pub small_at : Reader ℕ
small_at src at = cond (nat_lt at (length src)) (cond (slice_index src at == 0) (Err at) (Ok (slice_index src at, at + 1))) (Err at)

-- a number: a code for 0, a code and a byte, a code and all bytes
abbrev pub number_at : ℕ → ℕ → ℕ → Reader ℕ → Reader ℕ
number_at none small wide whole src at =
    cond (nat_lt at (length src))
    (cond (slice_index src at == none) (Ok (0, at + 1))
    (cond (slice_index src at == small) (small_at src (at + 1)) (cond (slice_index src at == wide) (whole src (at + 1)) (Err at))))
    (Err at)

abbrev pub compact_bool_at : Reader Bool
compact_bool_at src at =
    cond (nat_lt at (length src)) (cond (slice_index src at == 0x41) (Ok (true, at + 1)) (cond (slice_index src at == 0x42) (Ok (false, at + 1)) (Err at))) (Err at)

-- no fields have a code of their own
abbrev pub count_at : ℕ → ℕ → ℕ → ℕ → Result Cursor ℕ
count_at least most n at =
    cond (n == 0) (Err at) (cond (nat_lt n least) (Err at) (cond (nat_lt most n) (Err at) (Ok (record { at = at + 1; left = n }))))

abbrev pub compact_list_at : ℕ → ℕ → List ℕ → ℕ → Result Cursor ℕ
compact_list_at least most src at =
    cond (nat_lt at (length src))
    (cond (slice_index src at == 0x45) (cond (least == 0) (Ok (record { at = at + 1; left = 0 })) (Err at))
    (then (coded_at 0xc0 2 src at) (λ p. count_at least most (slice_index src (p + 1)) (p + 1))))
    (Err at)

abbrev pub compact_reading : Reading
compact_reading =
    record {
      form = compact_form;
      uint_at = number_at 0x43 0x52 0x70 (from_at 4 256);
      ulong_at = number_at 0x44 0x53 0x80 (from_at 8 256);
      bool_at = compact_bool_at;
      binary_at = sized_at 1 0xa0;
      symbol_at = sized_at 1 0xa3;
      list_at = compact_list_at;
    }

-- How the wide form is read.
use Rattle.std.specs.Prelude.{ℕ, ◌+◌, Bool, true, false, cond, List, Ok, Err, Result, ◌==◌, slice_index}
use Rattle.codec.specs.Wide.{wide_form}
use Rattle.reader.specs.Places.{Cursor, Found, Reader, then, coded_at, number}
use Rattle.reader.specs.Numbers.{sized_at}
use Rattle.reader.specs.Reading.{Reading}

-- all bytes of a number after their code
abbrev pub wide_number_at : ℕ → ℕ → Reader ℕ
wide_number_at width code src at = then (coded_at code width src at) (λ p. Ok (number width src p, p + width))

abbrev pub truth_of : ℕ → ℕ → Found Bool
truth_of b p = cond (b == 1) (Ok (true, p + 1)) (cond (b == 0) (Ok (false, p + 1)) (Err p))

abbrev pub wide_bool_at : Reader Bool
wide_bool_at src at = then (coded_at 0x56 1 src at) (λ p. truth_of (slice_index src p) p)

-- every field is there: four bytes of size come before the four of the count
abbrev pub wide_list_at : ℕ → ℕ → List ℕ → ℕ → Result Cursor ℕ
wide_list_at least most src at =
    then (coded_at 0xd0 8 src at) (λ p. cond (number 4 src (p + 4) == most) (Ok (record { at = p + 8; left = most })) (Err (p + 4)))

abbrev pub wide_reading : Reading
wide_reading =
    record {
      form = wide_form;
      uint_at = wide_number_at 4 0x70;
      ulong_at = wide_number_at 8 0x80;
      bool_at = wide_bool_at;
      binary_at = sized_at 4 0xb0;
      symbol_at = sized_at 4 0xb3;
      list_at = wide_list_at;
    }

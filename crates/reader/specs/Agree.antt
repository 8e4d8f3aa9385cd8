-- Comparing bytes with those that are written.
use Rattle.std.specs.Prelude.{ℕ, zero, suc, cond, List, length, Ok, Err, Result, ◌==◌, nat_eq, slice_index}
use Rattle.std.specs.List.{common_prefix_len}
use Rattle.std.specs.Str.{bytes_eq}

-- how many bytes at the front are the same
abbrev pub agree : List ℕ → List ℕ → ℕ
agree = common_prefix_len nat_eq

-- the first of the zeros right before a place
abbrev pub past_zeros : List ℕ → ℕ → ℕ
past_zeros src zero = 0
past_zeros src (suc n) = cond (slice_index src n == 0) (past_zeros src n) (suc n)

-- x, if src is these bytes; else the place of the first byte that is spare, or of the first size that is wrong:
-- all of a size before the byte that differs is zero, and its code is not
abbrev pub only : {A : Type 0} → List ℕ → List ℕ → A → Result A ℕ
only src bytes x =
    cond (bytes_eq src bytes) (Ok x) (cond (agree src bytes == length bytes) (Err (length bytes)) (Err (past_zeros src (agree src bytes))))

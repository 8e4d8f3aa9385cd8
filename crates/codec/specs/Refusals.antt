-- The number of a refusal to read.
use Rattle.std.specs.Prelude.{ℕ}
use Rattle.codec.specs.declared.error.ReadError.{ReadError}
use Rattle.codec.specs.declared.error.ReadError.TheVariants.{NotEncoded}

abbrev pub read_number : ReadError → ℕ
read_number (NotEncoded at) = 18

-- Ranges that nothing was taken of.
use Rattle.std.specs.Prelude.{◌≡◌, false}
use Rattle.std.specs.Range.{range_inclusive_exhausted}
use Rattle.std.specs.declared.ops.RangeInclusive.{RangeInclusive}

abbrev pub IsFresh : {A : Type 0} → RangeInclusive A → Type 0
IsFresh r = range_inclusive_exhausted r ≡ false

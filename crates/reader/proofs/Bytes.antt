-- Bounds of numbers of some bytes.
use Rattle.std.proofs.Common.{ℕ, ◌^◌, ◌<◌, arith}
use Rattle.reader.specs.declared.width.Width.{Width}
use Rattle.reader.specs.declared.width.Width.TheVariants.{One, Four, Eight}
use Rattle.reader.specs.Widths.{width_of}

-- a byte is a number of any width
pub wider : (w : Width) (x : ℕ) → x < 256 → x < 256 ^ width_of w
wider One x l = omega arith
wider Four x l = omega arith
wider Eight x l = omega arith

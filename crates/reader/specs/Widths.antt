-- How many bytes a number takes.
use Rattle.std.specs.Prelude.{ℕ}
use Rattle.reader.specs.declared.width.Width.{Width}
use Rattle.reader.specs.declared.width.Width.TheVariants.{One, Four, Eight}

abbrev pub width_of : Width → ℕ
width_of One = 1
width_of Four = 4
width_of Eight = 8

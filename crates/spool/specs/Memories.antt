-- Memory that is filled from its front.
use Rattle.std.specs.Prelude.{ℕ, ◌-◌, List, take, vec_items, vec_len}
use Rattle.spool.specs.declared.memory.Memory.{Memory}

-- what was laid
abbrev pub laid : Memory → List ℕ
laid m = take m.used (vec_items m.bytes)

abbrev pub free : Memory → ℕ
free m = vec_len m.bytes - m.used

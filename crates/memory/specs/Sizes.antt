-- What a link's memory has room for.
use Rattle.std.specs.Prelude.{ℕ, vec_len}
use Rattle.link.specs.Views.{Rooms}
use Rattle.memory.specs.declared.LinkMemory.{LinkMemory}
use Rattle.sender.specs.Views.{rooms_of}

abbrev pub rooms_in : LinkMemory → Rooms
rooms_in m = rooms_of (vec_len m.table) (vec_len m.resume) (vec_len m.resend)

abbrev pub seats_in : LinkMemory → ℕ
seats_in m = vec_len m.seats

-- Berths: links with the tickets of what they sent.
use Rattle.std.specs.Prelude.{ℕ, ◌+◌}
use Rattle.std.specs.VecDeque.{deque_len}
use Rattle.workloads.specs.declared.berth.Berth.{Berth}

-- how many tickets told that their delivery was accepted, or may tell it yet
abbrev pub outcomes : Berth → ℕ
outcomes b = b.accepted + deque_len b.tickets

-- Where messages lie in a pool of bytes.
use Rattle.std.specs.Prelude.{ℕ, ◌+◌, Bool, ◌||◌, List, nat_lt}
use Rattle.std.specs.List.{list_any}
use Rattle.unsettled.specs.declared.slot.Slot.{Slot}
use Rattle.unsettled.specs.declared.message.Place.{Place}
use Rattle.unsettled.specs.declared.message.UnsettledMessage.{UnsettledMessage}

-- a place ends past a pool of n bytes, or the pool is too long
abbrev pub outside : Place → ℕ → Bool
outside p n = nat_lt 67108864 n || nat_lt n (p.start + p.len)

-- some entry's place is outside a pool of n bytes
abbrev pub any_outside : List (Slot UnsettledMessage) → ℕ → Bool
any_outside xs n = list_any (λ x. outside x.entry.place n) xs

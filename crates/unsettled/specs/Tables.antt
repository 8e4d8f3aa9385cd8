-- A table of unsettled deliveries as a list of slots.
use Rattle.std.specs.Prelude.{ℕ, Bool, cond, ◌&&◌, ◌||◌, List, [], ◌∷◌, ◌++◌, length, take, is_some, Option, ◌==◌, nat_le, nat_lt, slice_index_or, slice_set}
use Rattle.std.specs.List.{find, position}
use Rattle.std.specs.Option.{option_map, unwrap_or}
use Rattle.std.specs.Str.{bytes_eq}
use Rattle.amqp.specs.declared.tag.DeliveryTag.{DeliveryTag}
use Rattle.unsettled.specs.declared.slot.Slot.{Slot}
use Rattle.unsettled.specs.declared.map.UnsettledMap.{UnsettledMap}
use Rattle.unsettled.specs.Lists.{replaced}

-- two tags are one where their bytes and their lengths are equal
unfoldable pub same_tag : DeliveryTag → DeliveryTag → Bool
same_tag s t = bytes_eq s.bytes t.bytes && s.len == t.len

-- what a table holds, in order
abbrev pub held : {M : Type 0} → UnsettledMap M → List (Slot M)
held m = take m.len m.slots.now

-- how many entries it has memory for
abbrev pub room : {M : Type 0} → UnsettledMap M → ℕ
room m = length m.slots.now

-- all its memory is in use
abbrev pub full : {M : Type 0} → UnsettledMap M → Bool
full m = nat_le (room m) (length (held m))

-- the slot is that of a tag
abbrev pub has_tag : {M : Type 0} → DeliveryTag → Slot M → Bool
has_tag t x = same_tag x.tag t

-- where a tag stands first
abbrev pub place : {M : Type 0} → DeliveryTag → List (Slot M) → Option ℕ
place t xs = position (has_tag t) xs

-- the entry of a slot that is there
abbrev pub entry_of : {M : Type 0} → Option (Slot M) → Option M
entry_of o = option_map (λ x. x.entry) o

-- the entry of a tag
abbrev pub look : {M : Type 0} → DeliveryTag → List (Slot M) → Option M
look t xs = entry_of (find (has_tag t) xs)

-- a present tag can always be put, a new one where there is room
abbrev pub can_put : {M : Type 0} → ℕ → DeliveryTag → List (Slot M) → Bool
can_put n t xs = is_some (look t xs) || nat_lt (length xs) n

-- a new tag joins the end, a present one has its entry replaced
abbrev pub put_in : {M : Type 0} → DeliveryTag → M → List (Slot M) → List (Slot M)
put_in t m xs =
    cond (is_some (look t xs)) (replaced (has_tag t) (record { tag = t; entry = m }) xs) (xs ++ record { tag = t; entry = m } ∷ [])

-- the last element takes the place of the one at i
abbrev pub swap_out : {X : Type 0} → ℕ → List X → List X
swap_out i [] = []
swap_out i (x ∷ xs) = take (length xs) (slice_set (x ∷ xs) i (slice_index_or (x ∷ xs) (length xs) x))

-- a tag's slot is taken out, if it is there
abbrev pub swap_removed : {M : Type 0} → DeliveryTag → List (Slot M) → List (Slot M)
swap_removed t xs = unwrap_or (option_map (λ i. swap_out i xs) (place t xs)) xs

-- The tags that a peer's attach brings.
use Rattle.std.specs.Prelude.{ℕ, ◌<◌, ◌≤◌, Bool, cond, ◌&&◌, ◌||◌, List, [], map, length, take, Option, Some, None, ◌≢◌, nat_le, nat_lt, slice_index_or}
use Rattle.std.specs.List.{list_any, range_with_len}
use Rattle.std.specs.Str.{bytes_eq}
use Rattle.amqp.specs.declared.state.DeliveryState.{DeliveryState}
use Rattle.amqp.specs.declared.tag.DeliveryTag.{DeliveryTag}
use Rattle.amqp.specs.Tags.{tag_from}
use Rattle.unsettled.specs.declared.slot.Slot.{Slot}
use Rattle.unsettled.specs.declared.peer.PeerDelivery.{PeerDelivery}
use Rattle.unsettled.specs.Keys.{mixed}
use Rattle.unsettled.specs.Tables.{can_put, put_in, has_tag}

-- a pair's tag
abbrev pub bytes_of : PeerDelivery → List ℕ
bytes_of p = p.tag.now

-- some pair has this tag
abbrev pub among : List ℕ → List PeerDelivery → Bool
among t ps = list_any (λ p. bytes_eq (bytes_of p) t) ps

-- a pair with no bytes, where a list has none
abbrev pub blank : PeerDelivery
blank = record { tag = record { ref_ptr = (0, 0); now = [] }; state = None }

-- the tag of the pair at i
abbrev pub tag_at : List PeerDelivery → ℕ → List ℕ
tag_at ps i = bytes_of (slice_index_or ps i blank)

-- the tag at i is too long, or stands among those before it
abbrev pub illegal_at : List PeerDelivery → ℕ → Bool
illegal_at ps i = nat_lt 32 (length (tag_at ps i)) || among (tag_at ps i) (take i ps)

-- some tag is illegal
abbrev pub illegal_tags : List PeerDelivery → Bool
illegal_tags ps = list_any (illegal_at ps) (range_with_len 0 (length ps))

-- each tag has at most 32 bytes, and no two are the same
pub record LegalTags (ps : List PeerDelivery) : Type 0 where
  pub short : (i : ℕ) → i < length ps → length (tag_at ps i) ≤ 32
  pub apart : (i j : ℕ) → i < j → j < length ps → tag_at ps i ≢ tag_at ps j

-- each tag has at most 32 bytes, and none of the first n stands again
pub record LegalUpTo (n : ℕ) (ps : List PeerDelivery) : Type 0 where
  pub short : (i : ℕ) → i < length ps → length (tag_at ps i) ≤ 32
  pub apart : (i j : ℕ) → i < n → i < j → j < length ps → tag_at ps i ≢ tag_at ps j

-- a pair's key is that of its tag
abbrev pub key_of_pair : PeerDelivery → Option ℕ
key_of_pair p = Some (mixed (bytes_of p))

-- a pair as a slot of a table
abbrev pub slot_of : PeerDelivery → Slot (Option DeliveryState)
slot_of p = record { tag = tag_from (bytes_of p); entry = p.state }

-- the pairs as the slots of a table
abbrev pub peers_of : List PeerDelivery → List (Slot (Option DeliveryState))
peers_of ps = map slot_of ps

-- a pair has this tag, which has at most 32 bytes
abbrev pub pair_of : DeliveryTag → PeerDelivery → Bool
pair_of t p = nat_le (length (bytes_of p)) 32 && has_tag t (slot_of p)

-- a pair is put under its tag where that has at most 32 bytes and there is room among n slots
abbrev pub with_pair : ℕ → List (Slot (Option DeliveryState)) → PeerDelivery → List (Slot (Option DeliveryState))
with_pair n xs p =
    cond (nat_le (length (bytes_of p)) 32 && can_put n (tag_from (bytes_of p)) xs) (put_in (tag_from (bytes_of p)) p.state xs) xs

-- What an index says of a list's items.
use Rattle.std.specs.Prelude.{◌≡◌, ℕ, ◌<◌, List, length, Some, Option, slice_index_or}
use Rattle.std.proofs.Props.{props}
use Rattle.amqp.specs.Tags.{tag_bytes}
use Rattle.unsettled.specs.declared.slot.Slot.{Slot}
use Rattle.unsettled.specs.Keys.{mixed}
use Rattle.unsettled.specs.Threads.{key_at}

-- the first n items each stand under their key, as far as an index reaches
pub record EachKeyed {X : Type 0} (key : X → Option ℕ) (keys : List (Option ℕ)) (n : ℕ) (xs : List X) : Type 0 where
  pub each : (k : ℕ) (x : X) → k < n → k < length keys → key_at keys k ≡ key (slice_index_or xs k x)

unfoldable pub Keyed : {X : Type 0} → (X → Option ℕ) → List (Option ℕ) → ℕ → List X → Type 0
Keyed key keys n xs = EachKeyed key keys n xs

pub Keyed-prop : {X : Type 0} (key : X → Option ℕ) (keys : List (Option ℕ)) (n : ℕ) (xs : List X) → IsProp (Keyed key keys n xs)
unfolding Keyed
Keyed-prop key keys n xs = hlevel props

-- a slot's key is that of its tag
abbrev pub key_of : {M : Type 0} → Slot M → Option ℕ
key_of x = Some (mixed (tag_bytes x.tag))

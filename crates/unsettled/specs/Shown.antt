-- What a table tells the peer of its deliveries, as an attach brings it (Part 2, 2.7.3).
use Rattle.std.specs.Prelude.{◌≡◌, ℕ, ◌+◌, ◌*◌, ◌/◌, ◌<◌, ◌≤◌, max, Bool, true, false, cond, List, [], ◌∷◌, ◌++◌, map, length, take, drop, Some, None, Ok, Err, Option, Result, nat_lt, slice_index_or}
use Rattle.amqp.specs.declared.error.MemoryError.{MemoryError}
use Rattle.amqp.specs.declared.error.MemoryError.TheVariants.{TooShort}
use Rattle.amqp.specs.declared.state.DeliveryState.{DeliveryState}
use Rattle.unsettled.specs.declared.slot.Slot.{Slot}

-- a tag with the state of its entry, or none
abbrev pub shown_slot : {M : Type 0} → (M → Option DeliveryState) → Slot M → Slot (Option DeliveryState)
shown_slot state x = record { tag = x.tag; entry = state x.entry }

-- how many of `total` entries are shown: all for a denominator of 0 or 1
abbrev pub shown_count : (total denominator : ℕ) → ℕ
shown_count total denominator = total / max 1 denominator

-- the pairs that are shown: none when reattaching or where nothing is held, else the first ones
abbrev pub shown_pairs : {M : Type 0} → (M → Option DeliveryState) → Bool → ℕ → List (Slot M) → Option (List (Slot (Option DeliveryState)))
shown_pairs state true denominator xs = None
shown_pairs state false denominator [] = None
shown_pairs state false denominator (x ∷ xs) = Some (map (shown_slot state) (take (shown_count (length (x ∷ xs)) denominator) (x ∷ xs)))

-- the answer where there is room for n pairs: how many are shown
abbrev pub shown_answer : {P : Type 0} → ℕ → Option (List P) → Result (Option ℕ) MemoryError
shown_answer n None = Ok None
shown_answer n (Some ps) = cond (nat_lt n (length ps)) (Err TooShort) (Ok (Some (length ps)))

-- what the memory holds then: the pairs, and past them what stood there
abbrev pub shown_memory : {P : Type 0} → List P → Option (List P) → List P
shown_memory out None = out
shown_memory out (Some ps) = cond (nat_lt (length out) (length ps)) out (ps ++ drop (length ps) out)

-- What pairs tell of the table xs: all of its entries for a denominator of 0 or 1, and else as many as go that many times into it;
-- these are its first ones, in order, each by its tag and its state.
pub record Tells {M : Type 0} (state : M → Option DeliveryState) (denominator : ℕ) (xs : List (Slot M)) (pairs : List (Slot (Option DeliveryState))) : Type 0 where
  pub all : denominator ≤ 1 → length pairs ≡ length xs
  pub some : 1 < denominator → (length pairs * denominator ≤ length xs) × (length xs < length pairs * denominator + denominator)
  pub tags : (k : ℕ) (p : Slot (Option DeliveryState)) (x : Slot M) → k < length pairs → (slice_index_or pairs k p).tag ≡ (slice_index_or xs k x).tag
  pub states : (k : ℕ) (p : Slot (Option DeliveryState)) (x : Slot M) → k < length pairs → (slice_index_or pairs k p).entry ≡ state (slice_index_or xs k x).entry

-- Places that are threaded by their keys: each bucket's first place, and from each place the next one of its bucket.
use Rattle.std.specs.Prelude.{◌≡◌, ℕ, ◌+◌, ◌%◌, ◌<◌, ◌≤◌, Bool, true, false, List, length, Some, None, Option, ◌==◌, slice_index, slice_index_or}
use Rattle.std.proofs.Props.{props}

-- a key is of a bucket
abbrev pub in_bucket : ℕ → Option ℕ → Bool
in_bucket b None = false
in_bucket b (Some key) = key % 2048 == b

-- the key at a place
abbrev pub key_at : List (Option ℕ) → ℕ → Option ℕ
key_at keys k = slice_index_or keys k None

-- `to` is the first place from `from` on whose key is of the bucket, or 1024 where there is none
pub record LeadsTo (keys : List (Option ℕ)) (b : ℕ) (from to : ℕ) : Type 0 where
  pub onward : from ≤ to
  pub within : to ≤ 1024
  pub between : (j : ℕ) → from ≤ j → j < to → in_bucket b (key_at keys j) ≡ false
  pub lands : to < 1024 → in_bucket b (key_at keys to) ≡ true

-- all buckets' places are linked, in order
pub record Threading (heads next : List ℕ) (keys : List (Option ℕ)) : Type 0 where
  pub heads_len : length heads ≡ 2048
  pub next_len : length next ≡ 1024
  pub keys_len : length keys ≡ 1024
  pub first : (b : ℕ) → b < 2048 → LeadsTo keys b 0 (slice_index heads b)
  pub after : (b k : ℕ) → k < 1024 → in_bucket b (key_at keys k) ≡ true → LeadsTo keys b (k + 1) (slice_index next k)

unfoldable pub Threaded : (heads next : List ℕ) → List (Option ℕ) → Type 0
Threaded heads next keys = Threading heads next keys

pub Threaded-prop : (heads next : List ℕ) (keys : List (Option ℕ)) → IsProp (Threaded heads next keys)
unfolding Threaded
Threaded-prop heads next keys = hlevel props

-- the last place before `place` whose key is of the bucket, if there is one
abbrev pub Before : List (Option ℕ) → (b place : ℕ) → Option ℕ → Type 0
Before keys b place None = (j : ℕ) → j < place → in_bucket b (key_at keys j) ≡ false
Before keys b place (Some last) =
    (last < place) × (in_bucket b (key_at keys last) ≡ true) × ((j : ℕ) → last < j → j < place → in_bucket b (key_at keys j) ≡ false)

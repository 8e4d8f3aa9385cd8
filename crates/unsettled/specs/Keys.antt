-- A key of bytes.
use Rattle.std.specs.Prelude.{ℕ, ◌+◌, ◌*◌, ◌%◌, List, fold}

-- they are mixed into 32 bits, each after a multiplication by the prime of the hash function FNV-1
unfoldable pub mixed : List ℕ → ℕ
mixed s = fold (λ key b. (key * 16777619 + b) % 4294967296) 2166136261 s

-- What a form has to keep.
use Rattle.std.specs.Prelude.{◌≡◌, ℕ, ◌^◌, ◌<◌, ◌≤◌, Bool, true, List, ◌++◌, length}
use Rattle.codec.specs.Amqp.{Vals, count, bool, uint, ulong, binary, symbol, list, Means, MeanAll}
use Rattle.codec.specs.Form.{Form}

-- its bytes mean the values, by AMQP's codes
pub record Meaningful (F : Form) : Type 0 where
  pub booleans : (b : Bool) → Means (F.booleans b) (bool b)
  pub uints : (x : ℕ) → x < 2 ^ 32 → Means (F.uints x) (uint x)
  pub ulongs : (x : ℕ) → x < 2 ^ 64 → Means (F.ulongs x) (ulong x)
  pub binaries : (b : List ℕ) → length b < 256 → Means (F.binaries (length b) ++ b) (binary b)
  pub symbols : (b : List ℕ) → length b < 256 → Means (F.symbols (length b) ++ b) (symbol b)
  pub lists : (b : List ℕ) (vs : Vals) → length b ≤ 252 → count vs ≤ 252 → MeanAll b vs → Means (F.lists (count vs) (length b) ++ b) (list vs)

-- no value is shorter than a null, no uint is longer than the greatest, and no front of a list than one of a list with fields
pub record Sizes (F : Form) : Type 0 where
  pub booleans : (b : Bool) → length (F.booleans b) ≡ length (F.booleans true)
  pub uints : (x : ℕ) → length (F.uints x) ≤ length (F.uints 4294967295)
  pub lists : (m n k l : ℕ) → (n ≡ 0 → m ≡ 0) → length (F.lists m k) ≤ length (F.lists n l)
  pub some_booleans : (b : Bool) → 1 ≤ length (F.booleans b)
  pub some_uints : (x : ℕ) → 1 ≤ length (F.uints x)
  pub some_ulongs : (x : ℕ) → 1 ≤ length (F.ulongs x)
  pub some_binaries : (n : ℕ) → 1 ≤ length (F.binaries n)
  pub some_symbols : (n : ℕ) → 1 ≤ length (F.symbols n)
  pub some_lists : (m k : ℕ) → 1 ≤ length (F.lists m k)

-- how long each is at most
pub record Bounds (F : Form) : Type 0 where
  pub booleans : (b : Bool) → length (F.booleans b) ≤ 2
  pub uints : (x : ℕ) → length (F.uints x) ≤ 5
  pub ulongs : (x : ℕ) → length (F.ulongs x) ≤ 9
  pub binaries : (n : ℕ) → length (F.binaries n) ≤ 5
  pub symbols : (n : ℕ) → length (F.symbols n) ≤ 5
  pub lists : (m k : ℕ) → length (F.lists m k) ≤ 9

pub record Lawful (F : Form) : Type 0 where
  pub meaning : Meaningful F
  pub sizes : Sizes F
  pub bounds : Bounds F

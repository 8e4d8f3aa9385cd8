-- A list's fields as they are met one by one.
use Rattle.std.specs.Prelude.{◌≡◌, ℕ, ◌+◌, ◌<◌, ◌≤◌, cond, List, [], ◌∷◌, ◌++◌, length, replicate}
use Rattle.arrayvec.specs.ArrayVec.{ArrayVec, array_vec_len}
use Rattle.codec.specs.Amqp.{Val, Vals, nil, cons}
use Rattle.codec.specs.Form.{Form, encoded, absent}
use Rattle.codec.specs.Meaning.{Ranged}
use Rattle.codec.specs.declared.body.Body.{Body}

-- n more bytes find room
abbrev pub HasRoom : ℕ → ArrayVec ℕ → Type 0
HasRoom n s = array_vec_len s + n ≤ 256

-- from s to t these bytes, at most n, came to the end
pub record Appended (n : ℕ) (b : List ℕ) (s t : ArrayVec ℕ) : Type 0 where
  pub made : t.items ≡ s.items ++ b
  pub len : array_vec_len t ≤ array_vec_len s + n

-- the bytes and the number of the fields up to the last that is present, and how many absent ones follow
pub record Met : Type 0 where
  pub bytes : List ℕ
  pub count : ℕ
  pub gap : ℕ

abbrev pub met : {F : Type 0} → Body F → Met
met b = record { bytes = b.bytes.items; count = b.count; gap = b.gap }

abbrev pub none_met : Met
none_met = record { bytes = []; count = 0; gap = 0 }

abbrev pub skipped : Met → Met
skipped s = record { bytes = s.bytes; count = s.count; gap = s.gap + 1 }

-- the absent fields that waited are nulls
abbrev pub with_nulls : Met → Met
with_nulls s = record { bytes = s.bytes ++ replicate s.gap 0x40; count = s.count + s.gap; gap = 0 }

-- and the bytes of one more field follow
abbrev pub begun : Met → Met
begun s = record { bytes = (with_nulls s).bytes; count = (with_nulls s).count + 1; gap = 0 }

abbrev pub added : Met → List ℕ → Met
added s b = record { bytes = (begun s).bytes ++ b; count = (begun s).count; gap = 0 }

unfoldable pub step : Form → Met → Val → Met
step F s v = cond (absent v) (skipped s) (added s (encoded F v))

abbrev pub steps : Form → Met → Vals → Met
steps F s nil = s
steps F s (cons v vs) = steps F (step F s v) vs

-- a terse form leaves out the absent fields at the end
abbrev pub ended : Form → Met → Met
ended F s = cond F.terse s (with_nulls s)

-- the described list of these fields
abbrev pub closed : Form → ℕ → Met → List ℕ
closed F code s =
    let t = ended F s in
    0x00 ∷ F.ulongs code ++ (F.lists t.count (length t.bytes) ++ t.bytes)

pub record Empty {F : Type 0} (b : Body F) : Type 0 where
  pub none : b.count + b.gap ≡ 0
  pub len : array_vec_len b.bytes + b.gap ≡ 0

-- room for one more field, of at most n bytes
pub record Room {F : Type 0} (n : ℕ) (b : Body F) : Type 0 where
  pub few : b.count + b.gap < 16
  pub len : array_vec_len b.bytes + b.gap + n ≤ 256

-- from s to t there is one more field, of at most n bytes
pub record Grew {F : Type 0} (n : ℕ) (s t : Body F) : Type 0 where
  pub one : t.count + t.gap ≡ s.count + s.gap + 1
  pub len : array_vec_len t.bytes + t.gap ≤ array_vec_len s.bytes + s.gap + n

-- from s to t this field, of at most n bytes, was met
pub record Took {G : Type 0} (F : Form) (n : ℕ) (v : Val) (s t : Body G) : Type 0 where
  pub made : met t ≡ step F (met s) v
  pub grew : Grew n s t
  pub ranged : Ranged v

-- these are the bytes of this value, at most n
pub record Encodes (F : Form) (n : ℕ) (v : Val) (s : ArrayVec ℕ) : Type 0 where
  pub made : s.items ≡ encoded F v
  pub len : array_vec_len s ≤ n
  pub ranged : Ranged v

-- A form of encoding: how each value and the front of a list are written, and what is left out.
use Rattle.std.specs.Prelude.{ℕ, Bool, true, false, cond, List, [], ◌∷◌, ◌++◌, length}
pub use Rattle.std.specs.List.{concat}
use Rattle.codec.specs.Amqp.{Val, Vals, nil, cons, null, bool, uint, ulong, binary, symbol, list, described}

pub record Form : Type 0 where
  -- are absent fields at the end of a list left out, and booleans that are false where they are absent
  pub terse : Bool
  pub booleans : Bool → List ℕ
  pub uints : ℕ → List ℕ
  pub ulongs : ℕ → List ℕ
  -- what comes before so many bytes
  pub binaries : ℕ → List ℕ
  pub symbols : ℕ → List ℕ
  -- what comes before so many fields, of so many bytes
  pub lists : ℕ → ℕ → List ℕ

abbrev pub absent : Val → Bool
absent null = true
absent (bool _) = false
absent (uint _) = false
absent (ulong _) = false
absent (binary _) = false
absent (symbol _) = false
absent (list _) = false
absent (described _ _) = false

-- is this field left out where it stands at the end of a list
abbrev pub left_out : Bool → Val → Bool
left_out terse v = cond terse (absent v) false

-- a field before those that are kept after it: one that may be left out is dropped before none
abbrev pub keep : {A : Type 0} → Bool → A → List A → List A
keep true b [] = []
keep true b (t ∷ ts) = b ∷ t ∷ ts
keep false b ts = b ∷ ts

-- a list of fields, each given by its bytes
abbrev pub list_of : Form → List (List ℕ) → List ℕ
list_of F ts = F.lists (length ts) (length (concat ts)) ++ concat ts

abbrev mutual
  -- the bytes of a value
  pub encoded : Form → Val → List ℕ
  encoded F null = 0x40 ∷ []
  encoded F (bool b) = F.booleans b
  encoded F (uint x) = F.uints x
  encoded F (ulong x) = F.ulongs x
  encoded F (binary b) = F.binaries (length b) ++ b
  encoded F (symbol b) = F.symbols (length b) ++ b
  encoded F (list vs) = list_of F (kept F vs)
  encoded F (described d v) = 0x00 ∷ encoded F d ++ encoded F v

  -- the bytes of each field that is kept
  pub kept : Form → Vals → List (List ℕ)
  kept F nil = []
  kept F (cons v vs) = keep (left_out F.terse v) (encoded F v) (kept F vs)

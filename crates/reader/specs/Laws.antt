-- What a reading has to keep: what its form writes, it reads back.
use Rattle.std.specs.Prelude.{◌≡◌, ℕ, ◌+◌, ◌^◌, ◌<◌, ◌≤◌, Bool, false, List, length, Ok, ◌≢◌, slice_index}
use Rattle.codec.specs.Amqp.{Val, Vals, count, bool, uint, ulong, binary, symbol, list}
use Rattle.amqp.specs.declared.header.Header.{Header}
use Rattle.codec.specs.Form.{Form, encoded, kept, absent, concat}
use Rattle.codec.specs.Headers.{header_bytes}
use Rattle.reader.specs.Places.{Cursor, Reader, Has}
use Rattle.reader.specs.Reading.{Reading}
use Rattle.reader.specs.Fits.{Any}

-- from c on these fields, each given by its bytes, stand in src, and end at end
pub record Tail (src : List ℕ) (end : ℕ) (c : Cursor) (ts : List (List ℕ)) : Type 0 where
  pub has : Has src c.at (concat ts)
  pub left : c.left ≡ length ts
  pub ends : c.at + length (concat ts) ≡ end

-- from c on the fields vs stand in src
pub record Left (R : Reading) (src : List ℕ) (end : ℕ) (c : Cursor) (vs : Vals) : Type 0 where
  pub tail : Tail src end c (kept R.form vs)

-- T reads the value E x back as x
pub record Item (R : Reading) (A : Type 0) (T : Reader A) (E : A → Val) (V : A → Type 0) : Type 0 where
  pub present : (x : A) → absent (E x) ≡ false
  pub back : (src : List ℕ) (at : ℕ) (x : A) → V x → Has src at (encoded R.form (E x)) → T src at ≡ Ok (x, at + length (encoded R.form (E x)))

-- T finds the bytes of the value E b
abbrev pub Span : Reading → (ℕ → Reader ℕ) → (List ℕ → Val) → Type 0
Span R T E =
    (src : List ℕ) (at most : ℕ) (b : List ℕ) → length b ≤ most → length b ≤ 32 → Has src at (encoded R.form (E b))
    → (s : ℕ) × (T most src at ≡ Ok (length b, s)) × Has src s b × (s + length b ≡ at + length (encoded R.form (E b)))

pub record Lawful (R : Reading) : Type 0 where
  -- no value but null begins with its code
  pub full : (v : Val) → absent v ≡ false → (src : List ℕ) (at : ℕ) → Has src at (encoded R.form v) → (at < length src) × (slice_index src at ≢ 0x40)
  pub uints : Item R ℕ R.uint_at uint (λ x. x < 2 ^ 32)
  pub ulongs : Item R ℕ R.ulong_at ulong (λ x. x < 2 ^ 64)
  pub bools : Item R Bool R.bool_at bool Any
  pub binaries : Span R R.binary_at binary
  pub symbols : Span R R.symbol_at symbol
  pub lists : (src : List ℕ) (p least : ℕ) (vs : Vals) → least ≤ length (kept R.form vs) → count vs < 256 → Has src p (encoded R.form (list vs))
      → (c : Cursor) × (R.list_at least (count vs) src p ≡ Ok c) × Left R src (p + length (encoded R.form (list vs))) c vs

-- these are the bytes that the form has for the header, at most 256
pub record Written (F : Form) (bytes : Header → List ℕ) (h : Header) : Type 0 where
  pub same : bytes h ≡ header_bytes F h
  pub short : length (bytes h) ≤ 256

-- Where the codes of a header stand, and what a reader answers where one is missing.
use Rattle.std.specs.Prelude.{◌≡◌, ℕ, suc, ◌+◌, ◌<◌, List, [], ◌∷◌, length, take, Err, Result, IsTrue, ◌≢◌, nat_eq, slice_index}
use Rattle.std.specs.List.{list_any}
use Rattle.amqp.specs.declared.header.Header.{Header}
use Rattle.codec.specs.declared.error.ReadError.{ReadError}
use Rattle.codec.specs.declared.error.ReadError.TheVariants.{NotEncoded}
use Rattle.codec.specs.Amqp.{Val, Vals, cons, list, described}
use Rattle.codec.specs.Form.{Form, encoded, kept, concat}
use Rattle.codec.specs.Headers.{header_bytes}
use Rattle.codec.specs.Values.{header_value}
use Rattle.reader.specs.Fits.{Fits}
use Rattle.reader.specs.Places.{Has}

-- the codes of values in both forms, and 0x00, which stands before a descriptor (Part 1, 1.2 and 1.6)
abbrev pub codes : List ℕ
codes =
    0x00 ∷ 0x40 ∷ 0x41 ∷ 0x42 ∷ 0x43 ∷ 0x44 ∷ 0x45 ∷ 0x52 ∷ 0x53 ∷ 0x56 ∷ 0x70 ∷ 0x80 ∷ 0xa0 ∷ 0xa3 ∷ 0xb0 ∷ 0xb3 ∷ 0xc0 ∷ 0xd0 ∷ []

abbrev pub NoCode : ℕ → Type 0
NoCode b = (c : ℕ) → IsTrue (list_any (nat_eq c) codes) → b ≢ c

-- the field v is written before the others
abbrev pub Keeps : Form → Val → Vals → Type 0
Keeps F v vs = kept F (cons v vs) ≡ encoded F v ∷ kept F vs

mutual
  -- so far from the first byte of a value a code stands: its own, or one within it
  pub data CodeAt (F : Form) : Val → ℕ → Type 0 where
    own : (v : Val) → CodeAt F v 0
    of_descriptor : {d v : Val} {p : ℕ} → CodeAt F d p → CodeAt F (described d v) (suc p)
    of_described : {d v : Val} {p : ℕ} → CodeAt F v p → CodeAt F (described d v) (suc (length (encoded F d) + p))
    of_field : {vs : Vals} {p : ℕ} → FieldCodeAt F vs p → CodeAt F (list vs) (length (F.lists (length (kept F vs)) (length (concat (kept F vs)))) + p)

  -- so far from the first byte of the fields of a list
  pub data FieldCodeAt (F : Form) : Vals → ℕ → Type 0 where
    here : {v : Val} {vs : Vals} {p : ℕ} → Keeps F v vs → CodeAt F v p → FieldCodeAt F (cons v vs) p
    later : {v : Val} {vs : Vals} {p : ℕ} → Keeps F v vs → FieldCodeAt F vs p → FieldCodeAt F (cons v vs) (length (encoded F v) + p)

-- where src is a header up to one of its codes, a byte that is no code is at fault
abbrev pub MissingCode : Form → List ℕ → Result Header ReadError → Type 0
MissingCode F src r =
    (h : Header) → Fits h → (p : ℕ) → CodeAt F (header_value F.terse h) p → Has src 0 (take p (header_bytes F h)) → p < length src → NoCode (slice_index src p)
    → r ≡ Err (NotEncoded p)

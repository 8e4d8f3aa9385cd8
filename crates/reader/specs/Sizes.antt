-- A header whose list is given another size is at fault there.
use Rattle.std.specs.Prelude.{◌≡◌, ℕ, zero, suc, ◌+◌, ◌/◌, ◌%◌, ◌^◌, ◌<◌, ◌≤◌, Bool, true, false, List, [], ◌∷◌, ◌++◌, length, Ok, Err, Result, ◌==◌, ◌≢◌, slice_index, refl}
use Rattle.std.specs.Str.{bytes_eq}
use Rattle.std.proofs.Common.{sym, ap, ap₂, subst, ◌∙◌, arith}
use Rattle.std.proofs.Math.Seq.{get_or-append_seam}
use Rattle.std.proofs.lemmas.Bool.{lt-ltb, ne_eqb, eq-eqb}
use Rattle.std.proofs.lemmas.List.{length-append, get_or-append-add}
use Rattle.std.proofs.lemmas.Slice.Eq.{bytes_eq-Decides}
use Rattle.amqp.specs.Tags.{be4}
use Rattle.amqp.specs.declared.header.Header.{Header}
use Rattle.amqp.specs.declared.header.Header.TheVariants.{Transfer, Disposition}
use Rattle.codec.specs.declared.error.ReadError.{ReadError}
use Rattle.codec.specs.declared.error.ReadError.TheVariants.{NotEncoded}
use Rattle.codec.specs.Amqp.{Vals, count, bool, uint, ulong}
use Rattle.codec.specs.Form.{Form, encoded, kept, concat}
use Rattle.codec.specs.Compact.{compact_form}
use Rattle.codec.specs.Wide.{wide_form}
use Rattle.codec.specs.Headers.{header_bytes}
use Rattle.codec.specs.Values.{transfer_fields, disposition_fields}
use Rattle.reader.specs.Agree.{agree, past_zeros}
use Rattle.reader.specs.Digits.{four}
use Rattle.reader.specs.Fits.{Fits}
use Rattle.reader.specs.Having.{has_self, has_split}
use Rattle.reader.specs.Headers.{header_at, read_of}
use Rattle.reader.specs.Items.{one_kept, two_kept}
use Rattle.reader.specs.Laws.{Left, Lawful, Written}
use Rattle.reader.specs.Missing.{few, all_kept}
use Rattle.reader.specs.Picky.{Picky}
use Rattle.reader.specs.Places.{Cursor, Has}
use Rattle.reader.specs.Reading.{Reading}
use Rattle.reader.specs.States.{described_at}
use Rattle.reader.specs.Whole.{rest, transfer_from, disposition_from}

-- a described list of these fields, with this size
abbrev pub with_size : Form → ℕ → Vals → ℕ → List ℕ
with_size F code vs size = 0x00 ∷ encoded F (ulong code) ++ (F.lists (length (kept F vs)) size ++ concat (kept F vs))

-- a header's bytes, with this size of its list
abbrev pub resized : Form → Header → ℕ → List ℕ
resized F (Transfer x) size = with_size F 0x14 (transfer_fields F.terse x) size
resized F (Disposition x) size = with_size F 0x15 (disposition_fields F.terse x) size

-- where that size begins: past the descriptor and the code of the list
abbrev pub size_place : Form → Header → ℕ
size_place F (Transfer x) = 2 + length (encoded F (ulong 0x14))
size_place F (Disposition x) = 2 + length (encoded F (ulong 0x15))

-- a header that has another size of its list is at fault at the size
abbrev pub WrongSize : Form → List ℕ → Result Header ReadError → Type 0
WrongSize F src r =
    (h : Header) → Fits h → (size : ℕ) → size + 4 < 2 ^ 32 → src ≡ resized F h size → src ≢ header_bytes F h → r ≡ Err (NotEncoded (size_place F h))

-- two sizes of a list differ first in the size, and all of it before that is zero
pub record SizesDiffer (F : Form) : Type 0 where
  pub long : (n size : ℕ) → 1 ≤ n → 3 ≤ length (F.lists n size)
  pub first : (pre xs : List ℕ) (n s m : ℕ) → 1 ≤ n → m + 4 < 256 → s + 4 < 2 ^ 32 → s ≢ m
      → (k : ℕ) × (k < length (pre ++ (F.lists n m ++ xs))) × (agree (pre ++ (F.lists n s ++ xs)) (pre ++ (F.lists n m ++ xs)) ≡ k) × (past_zeros (pre ++ (F.lists n s ++ xs)) k ≡ length pre + 1)

agree_past : (pre xs ys : List ℕ) → agree (pre ++ xs) (pre ++ ys) ≡ length pre + agree xs ys
agree_past [] xs ys = omega arith
agree_past (x ∷ pre) xs ys = rw (eq-eqb x x refl, agree_past pre xs ys) (omega arith)

past_code : (src : List ℕ) (k : ℕ) → slice_index src k ≢ 0 → past_zeros src (k + 1) ≡ k + 1
past_code src k n = let e : k + 1 ≡ suc k = omega arith in rw (e, ne_eqb (slice_index src k) 0 n)

past_zero : (src : List ℕ) (k j : ℕ) → j ≡ k + 1 → slice_index src k ≡ 0 → past_zeros src j ≡ past_zeros src k
past_zero src k j q z = let e : j ≡ suc k = omega arith in rw (e, z)

compact_first : (pre xs : List ℕ) (n s m : ℕ) → s ≢ m
    → (k : ℕ) × (k < length (pre ++ (0xc0 ∷ (m + 1) ∷ n ∷ xs))) × (agree (pre ++ (0xc0 ∷ (s + 1) ∷ n ∷ xs)) (pre ++ (0xc0 ∷ (m + 1) ∷ n ∷ xs)) ≡ k) × (past_zeros (pre ++ (0xc0 ∷ (s + 1) ∷ n ∷ xs)) k ≡ length pre + 1)
compact_first pre xs n s m d =
    let ys : List ℕ = (s + 1) ∷ n ∷ xs in
    let zs : List ℕ = (m + 1) ∷ n ∷ xs in
    let z : slice_index (pre ++ 0xc0 ∷ ys) (length pre) ≡ 0xc0 = get_or-append_seam pre 0xc0 ys 0 in
    let o : (s + 1 == m + 1) ≡ false = ne_eqb (s + 1) (m + 1) (λ e. d (omega arith)) in
    let a : agree (0xc0 ∷ ys) (0xc0 ∷ zs) ≡ 1 = rw o in
    (length pre + 1, omega (arith, length-append pre (0xc0 ∷ zs)), agree_past pre (0xc0 ∷ ys) (0xc0 ∷ zs) ∙ rw a, past_code (pre ++ 0xc0 ∷ ys) (length pre) (λ e. (let f = z in absurd (omega arith))))

pub compact_sizes : SizesDiffer compact_form
compact_sizes =
    record {
      long = λ n size l. rw (ne_eqb n 0 (λ e. omega arith)) (omega arith);
      first = λ pre xs n s m l b c d. rw (ne_eqb n 0 (λ e. omega arith)) (compact_first pre xs n s m d);
    }

module _ (pre xs ys : List ℕ) (z : ℕ) where
  abbrev Differ : ℕ → ℕ → ℕ → ℕ → Type 0
  Differ a b c d =
      (k : ℕ) × (k < length (pre ++ (0xd0 ∷ 0 ∷ 0 ∷ 0 ∷ z ∷ ys))) × (agree (pre ++ (0xd0 ∷ a ∷ b ∷ c ∷ d ∷ xs)) (pre ++ (0xd0 ∷ 0 ∷ 0 ∷ 0 ∷ z ∷ ys)) ≡ k) × (past_zeros (pre ++ (0xd0 ∷ a ∷ b ∷ c ∷ d ∷ xs)) k ≡ length pre + 1)

  module _ (a b c d : ℕ) where
    abbrev got : List ℕ
    got = pre ++ (0xd0 ∷ a ∷ b ∷ c ∷ d ∷ xs)

    past1 : past_zeros got (length pre + 1) ≡ length pre + 1
    past1 = let f : slice_index got (length pre) ≡ 0xd0 = get_or-append_seam pre 0xd0 (a ∷ b ∷ c ∷ d ∷ xs) 0 in past_code got (length pre) (λ e. absurd (omega arith))

    past2 : a ≡ 0 → past_zeros got (length pre + 2) ≡ length pre + 1
    past2 e = past_zero got (length pre + 1) (length pre + 2) (omega arith) (get_or-append-add pre (0xd0 ∷ a ∷ b ∷ c ∷ d ∷ xs) 1 0 ∙ e) ∙ past1

    past3 : a ≡ 0 → b ≡ 0 → past_zeros got (length pre + 3) ≡ length pre + 1
    past3 e f = past_zero got (length pre + 2) (length pre + 3) (omega arith) (get_or-append-add pre (0xd0 ∷ a ∷ b ∷ c ∷ d ∷ xs) 2 0 ∙ f) ∙ past2 e

    past4 : a ≡ 0 → b ≡ 0 → c ≡ 0 → past_zeros got (length pre + 4) ≡ length pre + 1
    past4 e f g = past_zero got (length pre + 3) (length pre + 4) (omega arith) (get_or-append-add pre (0xd0 ∷ a ∷ b ∷ c ∷ d ∷ xs) 3 0 ∙ g) ∙ past3 e f

  long : length (pre ++ (0xd0 ∷ 0 ∷ 0 ∷ 0 ∷ z ∷ ys)) ≡ length pre + 5 + length ys
  long = omega (arith, length-append pre (0xd0 ∷ 0 ∷ 0 ∷ 0 ∷ z ∷ ys))

  wide_first : (a b c d : ℕ) → (a ≡ 0 → b ≡ 0 → c ≡ 0 → d ≡ z → ⊥) → Differ a b c d
  wide_first (suc a) b c d n =
      let o : (suc a == 0) ≡ false = ne_eqb (suc a) 0 (λ e. omega arith) in
      (length pre + 1, omega (arith, long), agree_past pre _ _ ∙ rw o, past1 (suc a) b c d)
  wide_first zero (suc b) c d n =
      let o : (suc b == 0) ≡ false = ne_eqb (suc b) 0 (λ e. omega arith) in
      (length pre + 2, omega (arith, long), agree_past pre _ _ ∙ rw o, past2 0 (suc b) c d refl)
  wide_first zero zero (suc c) d n =
      let o : (suc c == 0) ≡ false = ne_eqb (suc c) 0 (λ e. omega arith) in
      (length pre + 3, omega (arith, long), agree_past pre _ _ ∙ rw o, past3 0 0 (suc c) d refl refl)
  wide_first zero zero zero d n =
      let o : (d == z) ≡ false = ne_eqb d z (n refl refl refl) in
      (length pre + 4, omega (arith, long), agree_past pre _ _ ∙ rw o, past4 0 0 0 d refl refl refl)

-- four bytes tell the number
told : (x z : ℕ) → x < 2 ^ 32 → x / 16777216 % 256 ≡ 0 → x / 65536 % 256 ≡ 0 → x / 256 % 256 ≡ 0 → x % 256 ≡ z → x ≡ z
told x z v e f g h =
    let s : Has (be4 x) 0 (be4 x) = has_self [] (be4 x) 0 refl in
    let r = (four (be4 x) 0 x v s).1 in
    omega arith

pub wide_sizes : SizesDiffer wide_form
wide_sizes =
    record {
      long = λ n size l. omega arith;
      first = λ pre xs n s m l b c d.
          (let e1 : (m + 4) / 16777216 % 256 ≡ 0 = omega arith in
          let e2 : (m + 4) / 65536 % 256 ≡ 0 = omega arith in
          let e3 : (m + 4) / 256 % 256 ≡ 0 = omega arith in
          let e4 : (m + 4) % 256 ≡ m + 4 = omega arith in
          rw (e1, e2, e3, e4) (wide_first pre (be4 n ++ xs) (be4 n ++ xs) (m + 4) ((s + 4) / 16777216 % 256) ((s + 4) / 65536 % 256) ((s + 4) / 256 % 256) ((s + 4) % 256)
          (λ p q r t. d (let w = told (s + 4) (m + 4) c p q r t in omega arith))));
    }

not_same : (s t : List ℕ) → s ≢ t → bytes_eq s t ≡ false
not_same s t d = go (bytes_eq s t) refl
  where
    go : (b : Bool) → bytes_eq s t ≡ b → bytes_eq s t ≡ false
    go true e = absurd (d ((bytes_eq-Decides s t).0 e))
    go false e = e

module _ (R : Reading) (L : Lawful R) (P : Picky R) (D : SizesDiffer R.form) (E : Header → List ℕ) (w : (h : Header) → Written R.form E h) where
  -- a size is passed over
  opened : (src : List ℕ) (code least size : ℕ) (vs : Vals) → code < 256 → least ≤ length (kept R.form vs) → count vs < 256 → src ≡ with_size R.form code vs size
      → (p : ℕ) × (described_at R src 0 ≡ Ok (code, p)) × (c : Cursor) × (R.list_at least (count vs) src p ≡ Ok c) × Left R src (length src) c vs
  unfolding described_at
  opened src code least size vs l m n e = go (subst (λ x. Has src 0 x) e (has_self [] src 0 refl))
    where
      go : Has src 0 (with_size R.form code vs size) → (p : ℕ) × (described_at R src 0 ≡ Ok (code, p)) × (c : Cursor) × (R.list_at least (count vs) src p ≡ Ok c) × Left R src (length src) c vs
      go (h0, h1, h2) =
          let u : List ℕ = encoded R.form (ulong code) in
          let f : List ℕ = R.form.lists (length (kept R.form vs)) size in
          let fs : List ℕ = concat (kept R.form vs) in
          let s = has_split u (f ++ fs) src 1 h2 in
          let t = has_split f fs src (1 + length u) s.1 in
          let k : length src ≡ suc (length (u ++ (f ++ fs))) = ap length e in
          let c : Cursor = record { at = 1 + length u + length f; left = length (kept R.form vs) } in
          let d : described_at R src 0 ≡ Ok (code, 1 + length u) = rw (lt-ltb 0 (length src) h0, h1) (L.ulongs.back src 1 code (omega arith) s.0) in
          let o : R.list_at least (count vs) src (1 + length u) ≡ Ok c =
          P.fronts src (1 + length u) least (count vs) (length (kept R.form vs)) size m (few R.form vs) (omega (arith, few R.form vs)) t.0 (λ q. all_kept R.form q vs) in
          let r : Left R src (length src) c vs = record { tail = record { has = t.1; left = refl; ends = omega (arith, length-append u (f ++ fs), length-append f fs) } } in
          (1 + length u, d, c, o, r)

  judged : (src : List ℕ) (code size : ℕ) (vs : Vals) (h : Header) → header_bytes R.form h ≡ with_size R.form code vs (length (concat (kept R.form vs))) → 1 ≤ length (kept R.form vs) → size + 4 < 2 ^ 32
      → src ≡ with_size R.form code vs size → src ≢ header_bytes R.form h → header_at R src 0 ≡ Ok (h, length src) → read_of R src ≡ Err (NotEncoded (2 + length (encoded R.form (ulong code))))
  judged src code size vs h same l small e d r =
      let u : List ℕ = encoded R.form (ulong code) in
      let n : ℕ = length (kept R.form vs) in
      let fs : List ℕ = concat (kept R.form vs) in
      let m : ℕ = length fs in
      let f : List ℕ = R.form.lists n m in
      let out : List ℕ = header_bytes R.form h in
      let some = L.full (ulong code) refl u 0 (has_self [] u 0 refl) in
      let k : length out ≡ suc (length (u ++ (f ++ fs))) = ap length same in
      let apart : size ≢ m = λ q. d (e ∙ ap (with_size R.form code vs) q ∙ sym same) in
      let short : length out ≤ 256 = rw (w h).same at (w h).short in
      let few : m + 4 < 256 = omega (arith, some.0, D.long n m l, length-append u (f ++ fs), length-append f fs) in
      let x = D.first (0x00 ∷ u) fs n size m l few small apart in
      let a : agree src out ≡ x.0 = ap₂ agree e same ∙ x.2 in
      let z : past_zeros src x.0 ≡ length (0x00 ∷ u) + 1 = ap (λ s. past_zeros s x.0) e ∙ x.3 in
      let q : (x.0 == length out) ≡ false = ne_eqb x.0 (length out) (λ g. (let w = x.1 in omega arith)) in
      let p : length (0x00 ∷ u) + 1 ≡ 2 + length u = omega arith in
      rw (r, not_same src out d, a, q, z) (rw p)

  pub wrong_size : (src : List ℕ) → WrongSize R.form src (read_of R src)
  unfolding header_at
  wrong_size src (Transfer x) v size l e d =
      let fs : Vals = transfer_fields R.form.terse x in
      let k : 1 ≤ length (kept R.form fs) = one_kept R L (uint x.handle) (rest fs) refl in
      let o = opened src 0x14 1 size fs (omega arith) k (omega arith) e in
      judged src 0x14 size fs (Transfer x) refl k l e d (rw o.1 (transfer_from R L src o.0 (length src) x v o.2 o.3 o.4))
  wrong_size src (Disposition x) v size l e d =
      let fs : Vals = disposition_fields R.form.terse x in
      let k : 2 ≤ length (kept R.form fs) = two_kept R L (bool false) (uint x.first) (rest (rest fs)) refl refl in
      let o = opened src 0x15 2 size fs (omega arith) k (omega arith) e in
      judged src 0x15 size fs (Disposition x) refl (omega arith) l e d (rw o.1 (disposition_from R L src o.0 (length src) x v o.2 o.3 o.4))

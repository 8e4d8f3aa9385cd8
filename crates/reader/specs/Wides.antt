-- The wide form is read back.
use Rattle.std.specs.Prelude.{◌≡◌, ℕ, suc, ◌+◌, ◌<◌, ◌≤◌, Bool, true, false, cond, List, [], ◌∷◌, ◌++◌, length, Ok, slice_index, refl}
use Rattle.std.proofs.Common.{sym, ap, arith}
use Rattle.std.proofs.lemmas.Bool.{lt-ltb, le-ltb, eq-eqb, false≢true}
use Rattle.amqp.specs.Tags.{be4}
use Rattle.amqp.specs.declared.header.Header.{Header}
use Rattle.codec.specs.Amqp.{Val, Vals, nil, cons, count, null, bool, uint, ulong, binary, symbol, list, described, be8}
use Rattle.codec.specs.Form.{encoded, kept, absent, concat}
use Rattle.codec.specs.Wide.{wide_form}
use Rattle.codec.specs.Forms.{wide_lawful as form_lawful}
use Rattle.codec.specs.Headers.{wide_bytes}
use Rattle.codec.proofs.Short.{short}
use Rattle.reader.specs.Places.{Cursor, Has, coded_at, number}
use Rattle.reader.specs.Numbers.{sized_at}
use Rattle.reader.specs.Wide.{wide_number_at, truth_of, wide_bool_at, wide_list_at, wide_reading}
use Rattle.reader.specs.Laws.{Left, Lawful, Written}
use Rattle.reader.specs.Having.{within, has_split}
use Rattle.reader.specs.Digits.{four, eight}
use Rattle.reader.specs.Compacts.{Full, first}

full : (v : Val) → absent v ≡ false → Full (encoded wide_form v)
full null e = absurd (false≢true (sym e))
full (bool b) e = first 0x56 _ (λ z. omega arith)
full (uint x) e = first 0x70 _ (λ z. omega arith)
full (ulong x) e = first 0x80 _ (λ z. omega arith)
full (binary b) e = first 0xb0 _ (λ z. omega arith)
full (symbol b) e = first 0xb3 _ (λ z. omega arith)
full (list vs) e = first 0xd0 _ (λ z. omega arith)
full (described d v) e = first 0x00 _ (λ z. omega arith)

coded : (code width : ℕ) (src : List ℕ) (at : ℕ) → at < length src → slice_index src at ≡ code → at + 1 + width ≤ length src → coded_at code width src at ≡ Ok (at + 1)
coded code width src at l e w = rw (lt-ltb at (length src) l, e, eq-eqb code code refl, le-ltb (length src) (at + 1 + width) w)

number_back : (width code : ℕ) (src : List ℕ) (at x : ℕ) (ys : List ℕ) → length ys ≡ width → (Has src (at + 1) ys → (at + 1 + width ≤ length src) × (number width src (at + 1) ≡ x)) → Has src at (code ∷ ys) → wide_number_at width code src at ≡ Ok (x, at + length (code ∷ ys))
number_back width code src at x ys n read (h0, h1, h2) =
    let f = read h2 in
    let e : at + 1 + width ≡ at + length (code ∷ ys) = omega arith in
    rw (coded code width src at h0 h1 f.0, f.1, e)

truth : (x : Bool) (p : ℕ) → truth_of (cond x 1 0) p ≡ Ok (x, p + 1)
truth true p = refl
truth false p = refl

bool_back : (src : List ℕ) (at : ℕ) (x : Bool) → Has src at (0x56 ∷ cond x 1 0 ∷ []) → wide_bool_at src at ≡ Ok (x, at + 2)
bool_back src at x (h0, h1, (k0, k1, k2)) =
    let e : at + 1 + 1 ≡ at + 2 = omega arith in
    rw (coded 0x56 1 src at h0 h1 (omega arith), k1, truth x (at + 1), e)

span : (code : ℕ) (src : List ℕ) (at most : ℕ) (b : List ℕ) → length b ≤ most → length b ≤ 32 → Has src at (code ∷ be4 (length b) ++ b) → (s : ℕ) × (sized_at 4 code most src at ≡ Ok (length b, s)) × Has src s b × (s + length b ≡ at + length (code ∷ be4 (length b) ++ b))
span code src at most b l m (h0, h1, h2) =
    let s = has_split (be4 (length b)) b src (at + 1) h2 in
    let f = four src (at + 1) (length b) (omega arith) s.0 in
    let w = within b src (at + 1 + 4) s.1 in
    (at + 1 + 4, rw (coded code 4 src at h0 h1 f.0, f.1, le-ltb most (length b) l, le-ltb (length src) (at + 1 + 4 + length b) w), s.1, omega arith)

-- every field is kept
all_kept : (vs : Vals) → length (kept wide_form vs) ≡ count vs
all_kept nil = refl
all_kept (cons v vs) = ap suc (all_kept vs)

list_back : (src : List ℕ) (p least : ℕ) (vs : Vals) → count vs < 256 → Has src p (encoded wide_form (list vs)) → (c : Cursor) × (wide_list_at least (count vs) src p ≡ Ok c) × Left wide_reading src (p + length (encoded wide_form (list vs))) c vs
list_back src p least vs n (h0, h1, h2) =
    let ts : List (List ℕ) = kept wide_form vs in
    let s = has_split (be4 (length (concat ts) + 4)) (be4 (length ts) ++ concat ts) src (p + 1) h2 in
    let t = has_split (be4 (length ts)) (concat ts) src (p + 1 + 4) s.1 in
    let g : p + 1 + 4 + 4 ≡ p + 1 + 8 = omega arith in
    let k : Has src (p + 1 + 8) (concat ts) = rw g at t.1 in
    let i = all_kept vs in
    let f = four src (p + 1 + 4) (length ts) (omega arith) t.0 in (
      record { at = p + 1 + 8; left = count vs },
      rw (coded 0xd0 8 src p h0 h1 (omega (arith, f.0)), f.1, i, eq-eqb (count vs) (count vs) refl),
      record { tail = record { has = k; left = sym i; ends = omega arith } },
    )

pub wide_lawful : Lawful wide_reading
unfolding Full
wide_lawful =
    record {
      full = full;
      uints = record { present = λ x. refl; back = λ src at x v h. number_back 4 0x70 src at x (be4 x) refl (four src (at + 1) x v) h };
      ulongs = record { present = λ x. refl; back = λ src at x v h. number_back 8 0x80 src at x (be8 x) refl (eight src (at + 1) x v) h };
      bools = record { present = λ x. refl; back = λ src at x v h. bool_back src at x h };
      binaries = λ src at most b l m h. span 0xb0 src at most b l m h;
      symbols = λ src at most b l m h. span 0xb3 src at most b l m h;
      lists = λ src p least vs l m h. list_back src p least vs m h;
    }

pub wide_written : (h : Header) → Written wide_form wide_bytes h
wide_written h = record { same = refl; short = omega (arith, short wide_form form_lawful.bounds h) }

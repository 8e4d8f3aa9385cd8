-- Each form's readings refuse a byte that is no code, and pass a size over.
use Rattle.std.specs.Prelude.{◌≡◌, ℕ, ◌+◌, ◌<◌, ◌≤◌, Bool, true, false, cond, List, [], ◌∷◌, ◌++◌, length, Ok, Err, Result, ◌==◌, slice_index, refl}
use Rattle.std.proofs.Common.{arith}
use Rattle.std.proofs.lemmas.Bool.{lt-ltb, le-ltb, ne_eqb, eq-eqb, eqb-true}
use Rattle.amqp.specs.Tags.{be4}
use Rattle.reader.specs.Codes.{NoCode}
use Rattle.reader.specs.Places.{Has, byte_at, coded_at}
use Rattle.reader.specs.Reading.{Reading}
use Rattle.reader.specs.Compact.{compact_list_at, compact_reading}
use Rattle.reader.specs.Wide.{wide_list_at, wide_reading}
use Rattle.reader.specs.Having.{has_split}
use Rattle.reader.specs.Digits.{four}

-- T refuses a byte that is no code
abbrev pub Refuses : {B : Type 0} → (List ℕ → ℕ → Result B ℕ) → Type 0
Refuses T = (src : List ℕ) (at : ℕ) → at < length src → NoCode (slice_index src at) → T src at ≡ Err at

pub record Picky (R : Reading) : Type 0 where
  pub uints : Refuses R.uint_at
  pub ulongs : Refuses R.ulong_at
  pub bools : Refuses R.bool_at
  pub binaries : (most : ℕ) → Refuses (R.binary_at most)
  pub symbols : (most : ℕ) → Refuses (R.symbol_at most)
  pub lists : (least most : ℕ) → Refuses (R.list_at least most)
  -- what stands before n fields, whatever their size
  pub fronts : (src : List ℕ) (p least most n size : ℕ) → least ≤ n → n ≤ most → n < 256 → Has src p (R.form.lists n size)
      → (R.form.terse ≡ false → n ≡ most) → R.list_at least most src p ≡ Ok (record { at = p + length (R.form.lists n size); left = n })

byte_refuses : (code : ℕ) (src : List ℕ) (at : ℕ) → at < length src → (slice_index src at == code) ≡ false → byte_at code src at ≡ Err at
byte_refuses code src at l n = rw (lt-ltb at (length src) l, n)

compact_front : (src : List ℕ) (p least most n size : ℕ) → least ≤ n → n ≤ most → (b : Bool) → (n == 0) ≡ b → Has src p (cond b (0x45 ∷ []) (0xc0 ∷ (size + 1) ∷ n ∷ []))
    → compact_list_at least most src p ≡ Ok (record { at = p + length (cond b (0x45 ∷ []) (0xc0 ∷ (size + 1) ∷ n ∷ [])); left = n })
compact_front src p least most n size l m true e (h0, h1, h2) =
    let z = eqb-true n 0 e in
    let f : least == 0 ≡ true = eq-eqb least 0 (omega arith) in
    rw (lt-ltb p (length src) h0, h1, f, z)
compact_front src p least most n size l m false e (h0, h1, (i0, i1, (j0, j1, k))) =
    let f : p + 1 + 1 + 1 ≡ p + 3 = omega arith in
    rw (lt-ltb p (length src) h0, h1, le-ltb (length src) (p + 1 + 2) (omega arith), j1, e, le-ltb n least l, le-ltb most n m) (rw f)

pub compact_picky : Picky compact_reading
compact_picky =
    record {
      uints = λ src at l n. rw (lt-ltb at (length src) l, ne_eqb _ 0x43 (n 0x43 refl), ne_eqb _ 0x52 (n 0x52 refl), ne_eqb _ 0x70 (n 0x70 refl));
      ulongs = λ src at l n. rw (lt-ltb at (length src) l, ne_eqb _ 0x44 (n 0x44 refl), ne_eqb _ 0x53 (n 0x53 refl), ne_eqb _ 0x80 (n 0x80 refl));
      bools = λ src at l n. rw (lt-ltb at (length src) l, ne_eqb _ 0x41 (n 0x41 refl), ne_eqb _ 0x42 (n 0x42 refl));
      binaries = λ most src at l n. rw (byte_refuses 0xa0 src at l (ne_eqb _ 0xa0 (n 0xa0 refl)));
      symbols = λ most src at l n. rw (byte_refuses 0xa3 src at l (ne_eqb _ 0xa3 (n 0xa3 refl)));
      lists = λ least most src at l n. rw (lt-ltb at (length src) l, ne_eqb _ 0x45 (n 0x45 refl), ne_eqb _ 0xc0 (n 0xc0 refl));
      fronts = λ src p least most n size l m s h t. compact_front src p least most n size l m (n == 0) refl h;
    }

coded_refuses : (code width : ℕ) (src : List ℕ) (at : ℕ) → at < length src → (slice_index src at == code) ≡ false → coded_at code width src at ≡ Err at
coded_refuses code width src at l n = rw (lt-ltb at (length src) l, n)

wide_front : (src : List ℕ) (p least n size : ℕ) → n < 256 → Has src p (0xd0 ∷ be4 (size + 4) ++ be4 n)
    → wide_list_at least n src p ≡ Ok (record { at = p + length (0xd0 ∷ be4 (size + 4) ++ be4 n); left = n })
wide_front src p least n size s (h0, h1, h2) =
    let t = has_split (be4 (size + 4)) (be4 n) src (p + 1) h2 in
    let f = four src (p + 1 + 4) n (omega arith) t.1 in
    let e : p + 1 + 8 ≡ p + 9 = omega arith in
    rw (lt-ltb p (length src) h0, h1, le-ltb (length src) (p + 1 + 8) (omega (arith, f.0)), f.1, eq-eqb n n refl) (rw e)

pub wide_picky : Picky wide_reading
wide_picky =
    record {
      uints = λ src at l n. rw (coded_refuses 0x70 4 src at l (ne_eqb _ 0x70 (n 0x70 refl)));
      ulongs = λ src at l n. rw (coded_refuses 0x80 8 src at l (ne_eqb _ 0x80 (n 0x80 refl)));
      bools = λ src at l n. rw (coded_refuses 0x56 1 src at l (ne_eqb _ 0x56 (n 0x56 refl)));
      binaries = λ most src at l n. rw (coded_refuses 0xb0 4 src at l (ne_eqb _ 0xb0 (n 0xb0 refl)));
      symbols = λ most src at l n. rw (coded_refuses 0xb3 4 src at l (ne_eqb _ 0xb3 (n 0xb3 refl)));
      lists = λ least most src at l n. rw (coded_refuses 0xd0 8 src at l (ne_eqb _ 0xd0 (n 0xd0 refl)));
      fronts = λ src p least most n size l m s h t. rw (← t refl) (wide_front src p least n size s h);
    }

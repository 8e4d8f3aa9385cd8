-- The compact form is read back.
use Rattle.std.specs.Prelude.{◌≡◌, ℕ, suc, ◌+◌, ◌<◌, ◌≤◌, Bool, true, false, cond, List, [], ◌∷◌, ◌++◌, length, Ok, ◌==◌, ◌≢◌, nat_eq, nat_lt, slice_index, refl}
use Rattle.std.proofs.Common.{sym, ◌∙◌, arith}
use Rattle.std.proofs.lemmas.Bool.{eqb-true, lt-ltb, le-ltb, ne_eqb, eq-eqb, false≢true}
use Rattle.amqp.specs.Tags.{be4}
use Rattle.amqp.specs.declared.header.Header.{Header}
use Rattle.codec.specs.Amqp.{Val, Vals, nil, cons, count, null, bool, uint, ulong, binary, symbol, list, described, be8}
use Rattle.codec.specs.Form.{encoded, kept, absent, keep, concat, list_of}
use Rattle.codec.specs.Compact.{compact_form}
use Rattle.codec.specs.Forms.{compact_lawful as form_lawful}
use Rattle.codec.specs.Headers.{compact_bytes}
use Rattle.codec.proofs.Short.{short}
use Rattle.reader.specs.Places.{Cursor, Reader, Has, number}
use Rattle.reader.specs.Numbers.{from_at, sized_at}
use Rattle.reader.specs.Compact.{number_at, compact_bool_at, compact_list_at, compact_reading}
use Rattle.reader.specs.Laws.{Tail, Lawful, Written}
use Rattle.reader.specs.Having.{within}
use Rattle.reader.specs.Digits.{one, four, eight}

unfoldable pub Full : List ℕ → Type 0
Full bs = (src : List ℕ) (at : ℕ) → Has src at bs → (at < length src) × (slice_index src at ≢ 0x40)

pub first : (b : ℕ) (bs : List ℕ) → (b ≢ 0x40) → Full (b ∷ bs)
unfolding Full
first b bs n src at h = (h.0, λ z. n (sym h.1 ∙ z))

of_cond : (a : Bool) (x y : List ℕ) → Full x → Full y → Full (cond a x y)
of_cond true x y f g = f
of_cond false x y f g = g

of_bool : (x : Bool) → Full (cond x 0x41 0x42 ∷ [])
of_bool true = first 0x41 [] (λ z. omega arith)
of_bool false = first 0x42 [] (λ z. omega arith)

of_front : (a : Bool) (n m : ℕ) (bs : List ℕ) → Full (cond a (0x45 ∷ []) (0xc0 ∷ n ∷ m ∷ []) ++ bs)
of_front true n m bs = first 0x45 bs (λ z. omega arith)
of_front false n m bs = first 0xc0 _ (λ z. omega arith)

of_number : (i j k x : ℕ) (ys : List ℕ) (a b : Bool) → (i ≢ 0x40) → (j ≢ 0x40) → (k ≢ 0x40) → Full (cond a (i ∷ []) (cond b (j ∷ x ∷ []) (k ∷ ys)))
of_number i j k x ys a b m n o = of_cond a _ _ (first i [] m) (of_cond b _ _ (first j _ n) (first k _ o))

full : (v : Val) → absent v ≡ false → Full (encoded compact_form v)
full null e = absurd (false≢true (sym e))
full (bool b) e = of_bool b
full (uint x) e = of_number 0x43 0x52 0x70 x (be4 x) (x == 0) (nat_lt x 256) (λ z. omega arith) (λ z. omega arith) (λ z. omega arith)
full (ulong x) e = of_number 0x44 0x53 0x80 x (be8 x) (x == 0) (nat_lt x 256) (λ z. omega arith) (λ z. omega arith) (λ z. omega arith)
full (binary b) e = first 0xa0 _ (λ z. omega arith)
full (symbol b) e = first 0xa3 _ (λ z. omega arith)
full (list vs) e = of_front (length (kept compact_form vs) == 0) _ _ _
full (described d v) e = first 0x00 _ (λ z. omega arith)

-- numbers

module _ (none small wide : ℕ) (n1 : nat_eq small none ≡ false) (n2 : nat_eq wide none ≡ false) (n3 : nat_eq wide small ≡ false) (whole : Reader ℕ) (src : List ℕ) (at x : ℕ) (ys : List ℕ) where
  numbered : (b0 b1 : Bool) → (x == 0) ≡ b0 → nat_lt x 256 ≡ b1 → (nat_lt x 256 ≡ false → Has src (at + 1) ys → whole src (at + 1) ≡ Ok (x, at + 1 + length ys)) → Has src at (cond b0 (none ∷ []) (cond b1 (small ∷ x ∷ []) (wide ∷ ys))) → number_at none small wide whole src at ≡ Ok (x, at + length (cond b0 (none ∷ []) (cond b1 (small ∷ x ∷ []) (wide ∷ ys))))
  numbered true b1 e0 e1 w (h0, h1, h2) = rw (lt-ltb at (length src) h0, h1, eq-eqb none none refl, eqb-true x 0 e0)
  numbered false true e0 e1 w (h0, h1, (k0, k1, k2)) =
      let e : at + 1 + 1 ≡ at + 2 = omega arith in
      rw (lt-ltb at (length src) h0, h1, n1, eq-eqb small small refl, lt-ltb (at + 1) (length src) k0, k1, e0) (rw e)
  numbered false false e0 e1 w (h0, h1, h2) =
      let e : at + 1 + length ys ≡ at + suc (length ys) = omega arith in
      rw (lt-ltb at (length src) h0, h1, n2, n3, eq-eqb wide wide refl, w e1 h2) (rw e)

large : (width : ℕ) (src : List ℕ) (at x : ℕ) → nat_lt x 256 ≡ false → (at + width ≤ length src) × (number width src at ≡ x) → from_at width 256 src at ≡ Ok (x, at + width)
large width src at x e f = rw (le-ltb (length src) (at + width) f.0, f.1, e)

bool_back : (src : List ℕ) (at : ℕ) (x : Bool) → Has src at (cond x 0x41 0x42 ∷ []) → compact_bool_at src at ≡ Ok (x, at + 1)
bool_back src at true (h0, h1, h2) = rw (lt-ltb at (length src) h0, h1)
bool_back src at false (h0, h1, h2) = rw (lt-ltb at (length src) h0, h1)

span : (code : ℕ) (src : List ℕ) (at most : ℕ) (b : List ℕ) → length b ≤ most → Has src at (code ∷ length b ∷ b) → (s : ℕ) × (sized_at 1 code most src at ≡ Ok (length b, s)) × Has src s b × (s + length b ≡ at + length (code ∷ length b ∷ b))
span code src at most b l (h0, h1, (k0, k1, k)) =
    let w = within b src (at + 1 + 1) k in (
      at + 1 + 1,
      rw (lt-ltb at (length src) h0, h1, eq-eqb code code refl, le-ltb (length src) (at + 1 + 1) (omega arith), one src (at + 1), k1, le-ltb most (length b) l, le-ltb (length src) (at + 1 + 1 + length b) w),
      k,
      omega arith,
    )

-- lists

at_most : (a : Bool) (b : List ℕ) (ts : List (List ℕ)) → length (keep a b ts) ≤ suc (length ts)
at_most true b [] = omega arith
at_most true b (t ∷ ts) = omega arith
at_most false b ts = omega arith

few : (vs : Vals) → length (kept compact_form vs) ≤ count vs
few nil = omega arith
few (cons v vs) = let s = few vs in omega (arith, at_most (absent v) (encoded compact_form v) (kept compact_form vs))

list_back : (src : List ℕ) (p least most : ℕ) (ts : List (List ℕ)) → least ≤ length ts → length ts ≤ most → Has src p (list_of compact_form ts) → (c : Cursor) × (compact_list_at least most src p ≡ Ok c) × Tail src (p + length (list_of compact_form ts)) c ts
list_back src p least most [] l m (h0, h1, h2) = (
  record { at = p + 1; left = 0 },
  rw (lt-ltb p (length src) h0, h1, eq-eqb least 0 (omega arith)),
  record { has = h2; left = refl; ends = omega arith },
)
list_back src p least most (u ∷ us) l m h =
    let k : Has src p (0xc0 ∷ (length (concat (u ∷ us)) + 1) ∷ length (u ∷ us) ∷ concat (u ∷ us)) = rw (ne_eqb (length (u ∷ us)) 0 (λ q. omega arith)) at h in
    let e : length (list_of compact_form (u ∷ us)) ≡ length (concat (u ∷ us)) + 3 = rw (ne_eqb (length (u ∷ us)) 0 (λ q. omega arith)) (omega arith) in
    rw e (go k)
  where
    go : Has src p (0xc0 ∷ (length (concat (u ∷ us)) + 1) ∷ length (u ∷ us) ∷ concat (u ∷ us)) → (c : Cursor) × (compact_list_at least most src p ≡ Ok c) × Tail src (p + (length (concat (u ∷ us)) + 3)) c (u ∷ us)
    go (h0, h1, (i0, i1, (j0, j1, k))) = (
      record { at = p + 1 + 1 + 1; left = length (u ∷ us) },
      rw (lt-ltb p (length src) h0, h1, le-ltb (length src) (p + 1 + 2) (omega arith), j1, ne_eqb (length (u ∷ us)) 0 (λ q. omega arith), le-ltb (length (u ∷ us)) least l, le-ltb most (length (u ∷ us)) m),
      record { has = k; left = refl; ends = omega arith },
    )

pub compact_lawful : Lawful compact_reading
unfolding Full
compact_lawful =
    record {
      full = full;
      uints =
          record {
            present = λ x. refl;
            back = λ src at x v h.
                numbered 0x43 0x52 0x70 refl refl refl (from_at 4 256) src at x (be4 x) (x == 0) (nat_lt x 256) refl refl
                (λ e k. large 4 src (at + 1) x e (four src (at + 1) x v k)) h;
          };
      ulongs =
          record {
            present = λ x. refl;
            back = λ src at x v h.
                numbered 0x44 0x53 0x80 refl refl refl (from_at 8 256) src at x (be8 x) (x == 0) (nat_lt x 256) refl refl
                (λ e k. large 8 src (at + 1) x e (eight src (at + 1) x v k)) h;
          };
      bools = record { present = λ x. refl; back = λ src at x v h. bool_back src at x h };
      binaries = λ src at most b l m h. span 0xa0 src at most b l h;
      symbols = λ src at most b l m h. span 0xa3 src at most b l h;
      lists = λ src p least vs l m h. (let b = list_back src p least (count vs) (kept compact_form vs) l (few vs) h in (b.0, b.1, record { tail = b.2 }));
    }

pub compact_written : (h : Header) → Written compact_form compact_bytes h
compact_written h = record { same = refl; short = omega (arith, short compact_form form_lawful.bounds h) }

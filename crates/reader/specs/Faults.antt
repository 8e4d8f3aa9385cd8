-- A refusal tells the first fault, in each form.
use Rattle.std.specs.Prelude.{◌≡◌, ℕ, zero, suc, ◌+◌, ◌-◌, ◌<◌, ◌≤◌, min, Bool, true, false, cond, List, [], ◌∷◌, ◌++◌, length, take, drop, Ok, Err, Result, ◌==◌, nat_eq, nat_lt, slice_index, refl}
use Rattle.std.proofs.Common.{sym, ap, ◌∙◌, arith}
use Rattle.std.specs.Str.{bytes_eq}
use Rattle.std.proofs.lemmas.Slice.Eq.{bytes_eq-Decides}
use Rattle.std.proofs.lemmas.Bool.{eqb-true, eq-eqb, ne_eqb, lt-ltb, ltb-true, ltb-false, false≢true}
use Rattle.std.proofs.lemmas.List.{take-append-drop, length-take-le, length-append}
use Rattle.std.proofs.Math.Seq.{take-length}
use Rattle.std.proofs.lemmas.List.Sums.{common_prefix_len-le}
use Rattle.amqp.specs.declared.header.Header.{Header}
use Rattle.codec.specs.declared.error.ReadError.{ReadError}
use Rattle.codec.specs.declared.error.ReadError.TheVariants.{NotEncoded}
use Rattle.codec.specs.Amqp.{ulong}
use Rattle.codec.specs.Form.{encoded}
use Rattle.codec.specs.Headers.{header_bytes}
use Rattle.reader.specs.Agree.{agree, past_zeros}
use Rattle.reader.specs.Fault.{Bytes, FirstFault, Placed, OtherKind}
use Rattle.reader.specs.Fits.{Fits}
use Rattle.reader.specs.Followed.{header}
use Rattle.reader.specs.Having.{has_self, has_split}
use Rattle.reader.specs.Headers.{header_at, refused, read_of}
use Rattle.reader.specs.Laws.{Lawful, Written}
use Rattle.reader.specs.Places.{Found, Has}
use Rattle.reader.specs.Reading.{Reading}
use Rattle.reader.specs.States.{described_at}
use Rattle.reader.specs.Steadies.{SteadyReading}
use Rattle.reader.specs.Steady.{Kept, same_byte, found, wrong, short, no_ok, same_ok}
use Rattle.reader.specs.Whole.{header as header_back}

same_err : {A : Type 0} {x y : ℕ} → ◌≡◌ {A = Result A ℕ} (Err x) (Err y) → x ≡ y
same_err e = cc

place_is : {x y : ℕ} → ◌≡◌ {A = Result Header ReadError} (Err (NotEncoded x)) (Err (NotEncoded y)) → x ≡ y
place_is e = cc

no_fault : {B : Type 0} {h : Header} {r : ReadError} → ◌≡◌ {A = Result Header ReadError} (Ok h) (Err r) → B
no_fault p = let z : ◌≡◌ {A = ℕ} 0 1 = cc in absurd (omega arith)

-- bytes that are compared

agree_take : (a b : List ℕ) → take (agree a b) a ≡ take (agree a b) b
agree_take [] b = refl
agree_take (x ∷ xs) [] = refl
agree_take (x ∷ xs) (y ∷ ys) = go (agree_take xs ys) (x == y) refl
  where
    go : take (agree xs ys) xs ≡ take (agree xs ys) ys → (t : Bool) → (x == y) ≡ t → take (cond t (1 + agree xs ys) 0) (x ∷ xs) ≡ take (cond t (1 + agree xs ys) 0) (y ∷ ys)
    go i true e = let o : 1 + agree xs ys ≡ suc (agree xs ys) = omega arith in rw (eqb-true x y e, o) cc
    go i false e = refl

agree_append : (a more b : List ℕ) → agree a b < length a → agree (a ++ more) b ≡ agree a b
agree_append [] more b l = absurd (omega arith)
agree_append (x ∷ xs) more [] l = refl
agree_append (x ∷ xs) more (y ∷ ys) l = go (agree_append xs more ys) (x == y) l
  where
    go : (agree xs ys < length xs → agree (xs ++ more) ys ≡ agree xs ys) → (t : Bool) → cond t (1 + agree xs ys) 0 < suc (length xs) → cond t (1 + agree (xs ++ more) ys) 0 ≡ cond t (1 + agree xs ys) 0
    go i true l = rw (i (omega arith))
    go i false l = refl

agree_front : (b rest : List ℕ) → agree (b ++ rest) b ≡ length b
agree_front [] [] = refl
agree_front [] (x ∷ xs) = refl
agree_front (x ∷ xs) rest = rw (eq-eqb x x refl, agree_front xs rest) (omega arith)

agree_self : (b : List ℕ) → agree b b ≡ length b
agree_self [] = refl
agree_self (x ∷ xs) = rw (eq-eqb x x refl, agree_self xs) (omega arith)

longer_differs : (s : List ℕ) (b : ℕ) (more : List ℕ) → bytes_eq (s ++ b ∷ more) s ≡ false
longer_differs s b more = go (bytes_eq (s ++ b ∷ more) s) refl
  where
    go : (t : Bool) → bytes_eq (s ++ b ∷ more) s ≡ t → bytes_eq (s ++ b ∷ more) s ≡ false
    go true q = let n : length (s ++ b ∷ more) ≡ length s = ap length ((bytes_eq-Decides (s ++ b ∷ more) s).0 q) in absurd (omega (arith, length-append s (b ∷ more)))
    go false q = q

past_zeros_le : (src : List ℕ) (n : ℕ) → past_zeros src n ≤ n
past_zeros_le src zero = omega arith
past_zeros_le src (suc n) = go (past_zeros_le src n) (slice_index src n == 0)
  where
    go : past_zeros src n ≤ n → (t : Bool) → cond t (past_zeros src n) (suc n) ≤ suc n
    go i true = omega arith
    go i false = omega arith

past_zeros_append : (src more : List ℕ) (n : ℕ) → n ≤ length src → past_zeros (src ++ more) n ≡ past_zeros src n
past_zeros_append src more zero l = refl
past_zeros_append src more (suc n) l = rw (same_byte src more n (omega arith), past_zeros_append src more n (omega arith))

module _ (R : Reading) (S : SteadyReading R) where
  abbrev rd : List ℕ → Found Header
  rd src = header_at R src 0

  cut : (src : List ℕ) (n : ℕ) → n ≤ length src → Kept (λ p. p.1) n (rd (take n src)) (rd src)
  cut src n l =
      let k = (header S (take n src) (drop n src) 0).kept (omega arith) in
      rw (take-append-drop n src, length-take-le n src l) at k

  inside : (src : List ℕ) (at : ℕ) → rd src ≡ Err at → at ≤ length src
  inside src at e = go (rw (take-length src) at (cut src (length src) (omega arith)))
    where
      go : Kept (λ p. p.1) (length src) (rd src) (rd src) → at ≤ length src
      go (found x p q w) = no_ok (sym e ∙ p)
      go (wrong q p f w) = let i : q ≡ at = same_err (sym p ∙ e) in omega arith
      go (short p n) = let i : length src ≡ at = same_err (sym p ∙ e) in omega arith

  -- where a code, a count or a value is wrong, or the bytes end
  cut_before : (src : List ℕ) (at n : ℕ) → rd src ≡ Err at → n < at → rd (take n src) ≡ Err n
  cut_before src at n e l = go (cut src n (omega (arith, inside src at e)))
    where
      go : Kept (λ p. p.1) n (rd (take n src)) (rd src) → rd (take n src) ≡ Err n
      go (found x p q w) = no_ok (sym e ∙ q)
      go (wrong q p f w) = let i : q ≡ at = same_err (sym f ∙ e) in absurd (omega arith)
      go (short p z) = p

  stays_wrong : (src more : List ℕ) (at : ℕ) → rd src ≡ Err at → at < length src → rd (src ++ more) ≡ Err at
  stays_wrong src more at e l = go ((header S src more 0).kept (omega arith))
    where
      go : Kept (λ p. p.1) (length src) (rd src) (rd (src ++ more)) → rd (src ++ more) ≡ Err at
      go (found x p q w) = no_ok (sym e ∙ p)
      go (wrong q p f w) = f ∙ ap Err (same_err (sym p ∙ e))
      go (short p z) = let i : length src ≡ at = same_err (sym p ∙ e) in absurd (omega arith)

  -- where a header is read, up to end
  inside_header : (src : List ℕ) (h : Header) (end : ℕ) → rd src ≡ Ok (h, end) → end ≤ length src
  inside_header src h end e = go (rw (take-length src) at (cut src (length src) (omega arith)))
    where
      go : Kept (λ p. p.1) (length src) (rd src) (rd src) → end ≤ length src
      go (found x p q w) = let i : x.1 ≡ end = ap (λ p. p.1) (same_ok (sym p ∙ e)) in omega arith
      go (wrong q p f w) = no_ok (sym p ∙ e)
      go (short p n) = no_ok (sym p ∙ e)

  cut_header : (src : List ℕ) (h : Header) (end n : ℕ) → rd src ≡ Ok (h, end) → n ≤ length src → n < end → rd (take n src) ≡ Err n
  cut_header src h end n e k l = go (cut src n k)
    where
      go : Kept (λ p. p.1) n (rd (take n src)) (rd src) → rd (take n src) ≡ Err n
      go (found x p q w) = let i : x.1 ≡ end = ap (λ p. p.1) (same_ok (sym q ∙ e)) in absurd (omega arith)
      go (wrong q p f w) = no_ok (sym f ∙ e)
      go (short p z) = p

  more_header : (src more : List ℕ) (h : Header) (end : ℕ) → rd src ≡ Ok (h, end) → rd (src ++ more) ≡ Ok (h, end)
  more_header src more h end e = go ((header S src more 0).kept (omega arith))
    where
      go : Kept (λ p. p.1) (length src) (rd src) (rd (src ++ more)) → rd (src ++ more) ≡ Ok (h, end)
      go (found x p q w) = q ∙ sym p ∙ e
      go (wrong q p f w) = no_ok (sym p ∙ e)
      go (short p z) = no_ok (sym p ∙ e)

  past_header : (src : List ℕ) (h : Header) (end n : ℕ) → rd src ≡ Ok (h, end) → n ≤ length src → end ≤ n → rd (take n src) ≡ Ok (h, end)
  past_header src h end n e k l = go (cut src n k)
    where
      go : Kept (λ p. p.1) n (rd (take n src)) (rd src) → rd (take n src) ≡ Ok (h, end)
      go (found x p q w) = p ∙ sym q ∙ e
      go (wrong q p f w) = no_ok (sym f ∙ e)
      go (short p z) = let i = z (h, end) e in absurd (omega arith)

-- a size or a spare byte is wrong: src is read as the header h up to end, and other bytes are written for it
module _ (R : Reading) (L : Lawful R) (S : SteadyReading R) (src : List ℕ) (bytes : Bytes src) (h : Header) (end : ℕ) (e : header_at R src 0 ≡ Ok (h, end)) where
  abbrev out : List ℕ
  out = header_bytes R.form h

  fits : Fits h
  fits = ((header S [] src 0).onward (h, end) e).1 bytes

  written : header_at R out 0 ≡ Ok (h, length out)
  written = let s : Has out 0 out = has_self [] out 0 refl in
      let z : 0 + length out ≡ length out = omega arith in
      rw z at (header_back R L out 0 h fits s)

  -- what is read is as long as what is written, if they agree as far as it was read
  as_long : end ≤ agree src out → end ≡ length out
  as_long l =
      let m = common_prefix_len-le nat_eq src out in
      let p = past_header R S src h end (agree src out) e m.0 l in
      go (rw (← agree_take src out) at (cut R S out (agree src out) m.1)) p m.1
    where
      go : Kept (λ p. p.1) (agree src out) (header_at R (take (agree src out) src) 0) (header_at R out 0) → header_at R (take (agree src out) src) 0 ≡ Ok (h, end) → agree src out ≤ length out → end ≡ length out
      go (found x p q w) i m = ap (λ p. p.1) (same_ok (sym i ∙ p ∙ sym q ∙ written))
      go (wrong q p f w) i m = no_ok (sym p ∙ i)
      go (short p z) i m = no_ok (sym p ∙ i)

  -- the comparison of src with what is written tells what it told
  abbrev told : List ℕ → Result Header ℕ
  told src = cond (bytes_eq src out) (Ok h) (cond (agree src out == length out) (Err (length out)) (Err (past_zeros src (agree src out))))

  as_far : agree src out ≤ end
  as_far = go (nat_lt (agree src out) end) refl
    where
      go : (t : Bool) → nat_lt (agree src out) end ≡ t → agree src out ≤ end
      go true q = let i = ltb-true (agree src out) end q in omega arith
      go false q = let m = common_prefix_len-le nat_eq src out in omega (arith, as_long (ltb-false (agree src out) end q), m.1)

  differs : bytes_eq src out ≡ false → agree src out < length src
  differs d = go (nat_lt (agree src out) (length src)) refl
    where
      go : (t : Bool) → nat_lt (agree src out) (length src) ≡ t → agree src out < length src
      go true q = ltb-true (agree src out) (length src) q
      go false q =
          let l = ltb-false (agree src out) (length src) q in
          let m = common_prefix_len-le nat_eq src out in
          let i = inside_header R S src h end e in
          let j : end ≡ length out = as_long (omega arith) in
          let k : agree src out ≡ length src = omega arith in
          let n : length src ≡ length out = omega arith in
          let same : src ≡ out = sym (take-length src) ∙ rw k at (agree_take src out) ∙ ap (λ n. take n out) n ∙ take-length out in
          absurd (false≢true (sym d ∙ (bytes_eq-Decides src out).1 same))

  module _ (more : List ℕ) (d : bytes_eq src out ≡ false) where
    agrees : agree (src ++ more) out ≡ agree src out
    agrees = agree_append src more out (differs d)

    unequal : bytes_eq (src ++ more) out ≡ false
    unequal = go (bytes_eq (src ++ more) out) refl
      where
        go : (t : Bool) → bytes_eq (src ++ more) out ≡ t → bytes_eq (src ++ more) out ≡ false
        go true q =
            let same : src ++ more ≡ out = (bytes_eq-Decides (src ++ more) out).0 q in
            let n : agree (src ++ more) out ≡ length out = rw same (agree_self out) in
            let k : length (src ++ more) ≡ length out = ap length same in
            absurd (omega (arith, agrees, differs d, length-append src more))
        go false q = q

    told_more : told (src ++ more) ≡ told src
    told_more = let m = common_prefix_len-le nat_eq src out in rw (unequal, agrees, d, past_zeros_append src more (agree src out) m.0)

  no_later : (at : ℕ) → refused (told src) ≡ Err (NotEncoded at) → (bytes_eq src out ≡ false) × (at ≤ agree src out)
  no_later at f = go (bytes_eq src out) (agree src out == length out) refl refl f
    where
      go : (a b : Bool) → bytes_eq src out ≡ a → (agree src out == length out) ≡ b → refused (cond a (Ok h) (cond b (Err (length out)) (Err (past_zeros src (agree src out))))) ≡ Err (NotEncoded at) → (bytes_eq src out ≡ false) × (at ≤ agree src out)
      go true b q r f = no_fault f
      go false true q r f = let n = eqb-true (agree src out) (length out) r in let p = place_is f in (q, omega arith)
      go false false q r f = let p = place_is f in (q, omega (arith, past_zeros_le src (agree src out)))

  first_size : (at : ℕ) → read_of R src ≡ Err (NotEncoded at) → FirstFault (read_of R) src at
  first_size at f =
      let t : refused (told src) ≡ Err (NotEncoded at) = rw e at f in
      let d = no_later at t in
      let m = common_prefix_len-le nat_eq src out in
      let i = inside_header R S src h end e in
      record {
        within = omega (arith, d.1, m.0);
        before = λ n l. rw (cut_header R S src h end n e (omega (arith, d.1, as_far)) (omega (arith, d.1, as_far)));
        after = λ l more. rw (more_header R S src more h end e) (ap refused (told_more more d.0) ∙ t);
      }

module _ (R : Reading) (L : Lawful R) (S : SteadyReading R) (src : List ℕ) where
  first : Bytes src → (at : ℕ) → read_of R src ≡ Err (NotEncoded at) → FirstFault (read_of R) src at
  first bytes at f = go (header_at R src 0) refl
    where
      go : (r : Found Header) → header_at R src 0 ≡ r → FirstFault (read_of R) src at
      go (Ok p) e = first_size R L S src bytes p.0 p.1 e at f
      go (Err q) e =
          let i : q ≡ at = place_is (rw e at f) in
          let e' : header_at R src 0 ≡ Err at = rw i at e in
          record {
            within = inside R S src at e';
            before = λ n l. rw (cut_before R S src at n e' l);
            after = λ l more. rw (stays_wrong R S src more at e' l);
          }

  cut_off : (h : Header) → Fits h → (n : ℕ) → n < length (header_bytes R.form h) → src ≡ take n (header_bytes R.form h) → read_of R src ≡ Err (NotEncoded n)
  cut_off h v n l e =
      let b : List ℕ = header_bytes R.form h in
      let s : Has b 0 b = has_self [] b 0 refl in
      rw (e, cut_header R S b h (0 + length b) n (header_back R L b 0 h v s) (omega arith) (omega arith))

  followed : (h : Header) → Fits h → (b : ℕ) (more : List ℕ) → src ≡ header_bytes R.form h ++ b ∷ more → read_of R src ≡ Err (NotEncoded (length (header_bytes R.form h)))
  followed h v b more e =
      let w : List ℕ = header_bytes R.form h ++ b ∷ more in
      let s : Has w 0 w = has_self [] w 0 refl in
      let i = has_split (header_bytes R.form h) (b ∷ more) w 0 s in
      rw (e, header_back R L w 0 h v i.0, longer_differs (header_bytes R.form h) b more, agree_front (header_bytes R.form h) (b ∷ more), eq-eqb (length (header_bytes R.form h)) (length (header_bytes R.form h)) refl)

pub placed : (R : Reading) → Lawful R → SteadyReading R → (src : List ℕ) → Bytes src → Placed (header_bytes R.form) (read_of R) src (read_of R src)
placed R L S src bytes = record { first = first R L S src bytes; short = cut_off R L S src; spare = followed R L S src }

-- the same for an encoder that writes the bytes of the form
pub placed_by : (R : Reading) → Lawful R → SteadyReading R → (E : Header → List ℕ) → ((h : Header) → Written R.form E h) → (src : List ℕ) → Bytes src → Placed E (read_of R) src (read_of R src)
placed_by R L S E w src bytes =
    let x = placed R L S src bytes in
    record {
      first = x.first;
      short = λ h v n l e. x.short h v n (rw (w h).same at l) (e ∙ ap (take n) (w h).same);
      spare = λ h v b more e. x.spare h v b more (e ∙ ap (λ s. s ++ b ∷ more) (w h).same) ∙ ap (λ s. Err (NotEncoded (length s))) (sym (w h).same);
    }

pub other_kind : (R : Reading) → Lawful R → (src : List ℕ) → OtherKind R.form src (read_of R src)
unfolding header_at described_at
other_kind R L src code l m n (h0, h1, h2) =
    let e = L.ulongs.back src 1 code l h2 in
    let p : min 2 (1 + length (encoded R.form (ulong code)) - 1) ≡ min 2 (length (encoded R.form (ulong code))) = omega arith in
    rw (lt-ltb 0 (length src) h0, h1, e, ne_eqb code 0x14 m, ne_eqb code 0x15 n) (rw p)

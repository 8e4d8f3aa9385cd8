-- Records part by part.
use Rattle.std.proofs.Common.{◌≡◌, ℕ, ◌+◌, ◌-◌, ◌<◌, ◌≤◌, Bool, true, false, cond, ltb, List, ◌++◌, length, get_or, take, drop, Some, None, Ok, Err, Option, Result, refl, sym, ap, ◌∙◌, ⊎_elim, arith}
use Rattle.std.specs.Int.{w16, w32, from_le_bytes}
use Rattle.std.specs.Option.{ok_or}
use Rattle.std.proofs.lemmas.Bool.{cases_lt, ltb-false, le-ltb}
use Rattle.std.proofs.lemmas.List.{append_assoc, take-append-drop, take_at, drop_at, take-append-le, drop-append-le, drop-drop, length-append, length-take, length-drop, get_or-take, get_or-drop, get_or_past}
use Rattle.amqp.specs.declared.header.FrameKind.{FrameKind}
use Rattle.amqp.specs.declared.header.Header.{Header}
use Rattle.codec.specs.declared.error.ReadError.{ReadError}
use Rattle.codec.specs.declared.error.ReadError.TheVariants.{NotEncoded}
use Rattle.reader.specs.Compact.{compact_reading}
use Rattle.reader.specs.Headers.{read_of as header_of}
use Rattle.sink.specs.Frames.{Frame, frame}
use Rattle.spool.specs.Reading.{kind_of, then, part_at, shifted, header_at, read_of}

-- x are n of the bytes, from a place on
pub record Part (n at : ℕ) (bs x : List ℕ) : Type 0 where
  pub within : at + n ≤ length bs
  pub is : x ≡ take n (drop at bs)

part_from : (n at : ℕ) (bs x : List ℕ) (b : Bool) → ltb (length bs) (at + n) ≡ b → cond b (Err (NotEncoded (length bs))) (Ok (take n (drop at bs))) ≡ Ok x → Part n at bs x
part_from n at bs x true q e = absurd (cc)
part_from n at bs x false q e = record { within = ltb-false (length bs) (at + n) q; is = cc }

pub part_of : (n at : ℕ) (bs x : List ℕ) → part_at n at bs ≡ Ok x → Part n at bs x
part_of n at bs x e = part_from n at bs x (ltb (length bs) (at + n)) refl e

pub part_is : {n at : ℕ} {bs x : List ℕ} → Part n at bs x → part_at n at bs ≡ Ok x
part_is {n} {at} {bs} {x} p = rw (le-ltb (length bs) (at + n) p.within, p.is)

pub part_length : {n at : ℕ} {bs x : List ℕ} → Part n at bs x → length x ≡ n
part_length {n} {at} {bs} {x} p = ap length p.is ∙ omega (arith, length-take n (drop at bs), length-drop at bs, p.within)

-- where these bytes stand they are a part
pub part_there : (n at : ℕ) (bs x b : List ℕ) → drop at bs ≡ x ++ b → n ≡ length x → at ≤ length bs → Part n at bs x
part_there n at bs x b e l h =
    record {
      within = omega (arith, ap length e, length-append x b, length-drop at bs);
      is = sym (ap (take n) e ∙ take_at x b n (sym l));
    }

-- bytes that stand behind others
pub part_behind : (n at : ℕ) (bs x p more : List ℕ) (s : ℕ) → drop at bs ≡ (x ++ p) ++ more → s ≡ length x → n ≡ length p → at + s ≤ length bs → Part n (at + s) bs p
part_behind n at bs x p more s e l m h =
    part_there n (at + s) bs p more (sym (drop-drop s at bs) ∙ ap (drop s) (e ∙ append_assoc x p more) ∙ drop_at x (p ++ more) s (sym l)) m h

-- a part and the bytes past it
pub part_first : {n at : ℕ} {bs x : List ℕ} → Part n at bs x → drop at bs ≡ x ++ drop (at + n) bs
part_first {n} {at} {bs} {x} p = sym (take-append-drop n (drop at bs)) ∙ ap (λ y. y ++ drop n (drop at bs)) (sym p.is) ∙ ap (λ y. x ++ y) (drop-drop n at bs)

-- what stands behind the bytes does not matter to a part of them
pub part_stays : {n at : ℕ} {bs x : List ℕ} (r : List ℕ) → Part n at bs x → Part n at (bs ++ r) x
part_stays {n} {at} {bs} {x} r p =
    record {
      within = omega (arith, p.within, length-append bs r);
      is = p.is ∙ sym (take-append-le n (drop at bs) r (omega (arith, p.within, length-drop at bs))) ∙ ap (take n) (sym (drop-append-le at bs r (omega (arith, p.within))));
    }

-- each is below 256
abbrev pub Bytes : List ℕ → Type 0
Bytes bs = (i : ℕ) → get_or bs i 0 < 256

pub part_bytes : {n at : ℕ} {bs x : List ℕ} → Part n at bs x → Bytes bs → Bytes x
part_bytes {n} {at} {bs} {x} p b i =
    ⊎_elim
    (λ (l : i < n). omega (arith, ap (λ y. get_or y i 0) p.is, get_or-take n (drop at bs) i 0 l, get_or-drop at bs i 0, b (at + i)))
    (λ (l : n ≤ i). omega (arith, get_or_past x i 0 (omega (arith, part_length p))))
    (cases_lt i n)

-- the parts of the bytes of a frame's record, as they are read
pub record ReadAs (bs : List ℕ) (f : Frame) (n : ℕ) : Type 0 where
  pub rest : List ℕ
  pub code : List ℕ
  pub handle : List ℕ
  pub size : List ℕ
  pub header : List ℕ
  pub rest_part : Part 4 0 bs rest
  pub code_part : Part 2 4 bs code
  pub handle_part : Part 4 6 bs handle
  pub size_part : Part 2 10 bs size
  pub header_part : Part (from_le_bytes w16 size) 12 bs header
  pub payload_part : Part (from_le_bytes w32 rest - 8 - from_le_bytes w16 size) (12 + from_le_bytes w16 size) bs f.payload
  pub kind_is : kind_of (from_le_bytes w16 code) ≡ Some f.kind
  pub handle_is : f.handle ≡ from_le_bytes w32 handle
  pub header_is : header_of compact_reading header ≡ Ok f.header
  pub long : 8 + from_le_bytes w16 size ≤ from_le_bytes w32 rest
  pub length_is : n ≡ 4 + from_le_bytes w32 rest

pub read_is : {bs : List ℕ} {f : Frame} {n : ℕ} → ReadAs bs f n → read_of bs ≡ Ok (f, n)
unfolding read_of
read_is {bs} {f} {n} a =
    let r = from_le_bytes w32 a.rest in
    let s = from_le_bytes w16 a.size in
    rw (part_is a.rest_part, le-ltb r 8 (omega (arith, a.long)), part_is a.code_part, a.kind_is, part_is a.handle_part, part_is a.size_part, le-ltb r (8 + s) a.long, part_is a.header_part, a.header_is, part_is a.payload_part, ← a.handle_is, ← a.length_is) refl

then_ok : {A B : Type 0} (r : Result A ReadError) (f : A → Result B ReadError) (y : B) → then r f ≡ Ok y → (x : A) × (r ≡ Ok x) × (f x ≡ Ok y)
then_ok (Ok x) f y e = (x, refl, e)
then_ok (Err z) f y e = absurd (cc)

not_below : {B : Type 0} (a b : ℕ) (e : ReadError) (r : Result B ReadError) (y : B) → cond (ltb a b) (Err e) r ≡ Ok y → (b ≤ a) × (r ≡ Ok y)
not_below a b e r y p = go (ltb a b) refl p
  where
    go : (t : Bool) → ltb a b ≡ t → cond t (Err e) r ≡ Ok y → (b ≤ a) × (r ≡ Ok y)
    go true q p = absurd (cc)
    go false q p = (ltb-false a b q, p)

some_ok : {A : Type 0} (o : Option A) (e : ReadError) (x : A) → ok_or o e ≡ Ok x → o ≡ Some x
some_ok (Some y) e x p = cc
some_ok None e x p = absurd (cc)

unshifted : {A : Type 0} (n : ℕ) (bs : List ℕ) (r : Result A ReadError) (x : A) → shifted n bs r ≡ Ok x → r ≡ Ok x
unshifted n bs (Ok y) x p = p
unshifted n bs (Err (NotEncoded at)) x p = absurd (cc)

both : {X : Type 0} {E : Type 0} (x y : X) (n m : ℕ) → ◌≡◌ {A = Result (X × ℕ) E} (Ok (x, n)) (Ok (y, m)) → (x ≡ y) × (n ≡ m)
both {X} x y n m e = let q : ◌≡◌ {A = X × ℕ} (x, n) (y, m) = cc in (ap (λ p. p.0) q, ap (λ p. p.1) q)

made : (bs rest code handle size header payload : List ℕ) (k : FrameKind) (x : Header) (f : Frame) (n : ℕ)
    → part_at 4 0 bs ≡ Ok rest → part_at 2 4 bs ≡ Ok code → part_at 4 6 bs ≡ Ok handle → part_at 2 10 bs ≡ Ok size
    → part_at (from_le_bytes w16 size) 12 bs ≡ Ok header → part_at (from_le_bytes w32 rest - 8 - from_le_bytes w16 size) (12 + from_le_bytes w16 size) bs ≡ Ok payload
    → kind_of (from_le_bytes w16 code) ≡ Some k → header_of compact_reading header ≡ Ok x → 8 + from_le_bytes w16 size ≤ from_le_bytes w32 rest
    → ◌≡◌ {A = Result (Frame × ℕ) ReadError} (Ok (frame k (from_le_bytes w32 handle) x payload, 4 + from_le_bytes w32 rest)) (Ok (f, n)) → ReadAs bs f n
made bs rest code handle size header payload k x f n e1 e2 e3 e4 e5 e6 ek eh l e =
    let b = both (frame k (from_le_bytes w32 handle) x payload) f (4 + from_le_bytes w32 rest) n e in
    let q = b.0 in
    record {
      rest = rest;
      code = code;
      handle = handle;
      size = size;
      header = header;
      rest_part = part_of 4 0 bs rest e1;
      code_part = part_of 2 4 bs code e2;
      handle_part = part_of 4 6 bs handle e3;
      size_part = part_of 2 10 bs size e4;
      header_part = part_of (from_le_bytes w16 size) 12 bs header e5;
      payload_part = part_of (from_le_bytes w32 rest - 8 - from_le_bytes w16 size) (12 + from_le_bytes w16 size) bs f.payload (e6 ∙ ap (λ y. Ok y.payload) q);
      kind_is = ek ∙ ap (λ y. Some y.kind) q;
      handle_is = ap (λ y. y.handle) (sym q);
      header_is = eh ∙ ap (λ y. Ok y.header) q;
      long = l;
      length_is = sym b.1;
    }

pub read_as : (bs : List ℕ) (f : Frame) (n : ℕ) → read_of bs ≡ Ok (f, n) → ReadAs bs f n
unfolding read_of
read_as bs f n e =
    let a = then_ok (part_at 4 0 bs) _ (f, n) e in
    let b = not_below (from_le_bytes w32 a.0) 8 _ _ (f, n) a.2 in
    let c = then_ok (part_at 2 4 bs) _ (f, n) b.1 in
    let d = then_ok (ok_or (kind_of (from_le_bytes w16 c.0)) (NotEncoded 4)) _ (f, n) c.2 in
    let g = then_ok (part_at 4 6 bs) _ (f, n) d.2 in
    let h = then_ok (part_at 2 10 bs) _ (f, n) g.2 in
    let i = not_below (from_le_bytes w32 a.0) (8 + from_le_bytes w16 h.0) _ _ (f, n) h.2 in
    let j = then_ok (header_at (from_le_bytes w16 h.0) bs) _ (f, n) i.1 in
    let k = then_ok (part_at (from_le_bytes w16 h.0) 12 bs) _ j.0 j.1 in
    let l = then_ok (part_at (from_le_bytes w32 a.0 - 8 - from_le_bytes w16 h.0) (12 + from_le_bytes w16 h.0) bs) _ (f, n) j.2 in
    made bs a.0 c.0 g.0 h.0 k.0 l.0 d.0 j.0 f n a.1 c.1 g.1 h.1 k.1 l.1 (some_ok (kind_of (from_le_bytes w16 c.0)) (NotEncoded 4) d.0 d.1) (unshifted 12 bs (header_of compact_reading k.0) j.0 k.2) i.0 l.2

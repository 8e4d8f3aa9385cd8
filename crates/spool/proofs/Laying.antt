-- A record laid behind others: it is read after them.
use Rattle.std.proofs.Common.{◌≡◌, ℕ, zero, suc, ◌+◌, ◌*◌, ◌/◌, ◌<◌, ◌≤◌, List, [], ◌∷◌, ◌++◌, length, drop, Some, None, Ok, Err, Option, Result, refl, sym, ap, ◌∙◌, arith, one-mul, mul-le-mul_right, IfSome}
use Rattle.std.proofs.Math.Nat.{div-mul-le_self, add-div_right, mul-div_left}
use Rattle.std.proofs.lemmas.Nat.{le-div}
use Rattle.std.specs.Option.{SomeIff}
use Rattle.std.proofs.lemmas.List.{append-nil, drop_at, drop_all, drop-append-le, length-append, length-drop, nil_from_length, flat_map_more}
use Rattle.codec.specs.declared.error.ReadError.{ReadError}
use Rattle.codec.specs.Headers.{compact_bytes}
use Rattle.reader.specs.Compact.{compact_reading}
use Rattle.reader.specs.Compacts.{compact_lawful}
use Rattle.reader.specs.Whole.{exact as header_exact}
use Rattle.sink.specs.Frames.{Frame}
use Rattle.spool.specs.Records.{record_of, records}
use Rattle.spool.specs.Reading.{read_of, first_then, frames_within, frames_in}
use Rattle.spool.specs.Exact.{FrameFits}
use Rattle.spool.specs.Spools.{room_for}
use Rattle.spool.proofs.Parts.{part_length, part_stays, read_is, read_as}
use Rattle.spool.proofs.Exact.{back, compact_short}

-- what stands behind a record does not matter to it
stays : (bs r : List ℕ) (f : Frame) (n : ℕ) → read_of bs ≡ Ok (f, n) → read_of (bs ++ r) ≡ Ok (f, n)
stays bs r f n e =
    let a = read_as bs f n e in
    read_is (record {
      rest = a.rest;
      code = a.code;
      handle = a.handle;
      size = a.size;
      header = a.header;
      rest_part = part_stays r a.rest_part;
      code_part = part_stays r a.code_part;
      handle_part = part_stays r a.handle_part;
      size_part = part_stays r a.size_part;
      header_part = part_stays r a.header_part;
      payload_part = part_stays r a.payload_part;
      kind_is = a.kind_is;
      handle_is = a.handle_is;
      header_is = a.header_is;
      long = a.long;
      length_is = a.length_is;
    })

-- a record is as long as it is told to be, has a front, and stands whole
pub record Sizes (bs : List ℕ) (f : Frame) (n : ℕ) : Type 0 where
  pub whole : n ≤ length bs
  pub front : 12 ≤ n
  pub told : n ≡ length (record_of f)

pub sizes : (bs : List ℕ) (f : Frame) (n : ℕ) → read_of bs ≡ Ok (f, n) → Sizes bs f n
sizes bs f n e =
    let a = read_as bs f n e in
    let x : a.header ≡ compact_bytes f.header = (header_exact compact_reading compact_lawful a.header).only f.header a.header_is in
    let lx = part_length a.header_part in
    let lp = part_length a.payload_part in
    record {
      whole = omega (arith, a.length_is, a.long, a.payload_part.within);
      front = omega (arith, a.length_is, a.long);
      told = omega (arith, a.length_is, a.long, lx, lp, ap length x, length-append (compact_bytes f.header) f.payload);
    }

pub none_in : (most : ℕ) → frames_within most [] ≡ []
unfolding read_of
none_in zero = refl
none_in (suc most) = refl

-- a record alone
one : (most : ℕ) (bs : List ℕ) (f : Frame) → length bs ≤ most → read_of bs ≡ Ok (f, length bs) → frames_within most bs ≡ f ∷ []
one zero bs f l e = absurd (omega (arith, (sizes bs f (length bs) e).front))
one (suc most) bs f l e = rw e (ap (λ xs. f ∷ frames_within most xs) (drop_all (length bs) bs (omega arith)) ∙ ap (λ fs. f ∷ fs) (none_in most))

-- a record behind others
pub behind : (most more : ℕ) (bs r : List ℕ) (f : Frame) → length bs ≤ most → length (bs ++ r) ≤ more → records (frames_within most bs) ≡ bs → read_of r ≡ Ok (f, length r) → frames_within more (bs ++ r) ≡ frames_within most bs ++ f ∷ []
behind zero more bs r f l m w e =
    let z : bs ≡ [] = nil_from_length bs (omega arith) in
    ap (λ xs. frames_within more (xs ++ r)) z ∙ one more r f (omega (arith, length-append bs r)) e
behind (suc most) zero bs r f l m w e = absurd (omega (arith, (sizes r f (length r) e).front, length-append bs r))
behind (suc most) (suc more) bs r f l m w e = by (λ n h i d. behind most more (drop n bs) r f h i d e) (read_of bs) refl w
  where
    by : ((n : ℕ) → length (drop n bs) ≤ most → length (drop n bs ++ r) ≤ more → records (frames_within most (drop n bs)) ≡ drop n bs → frames_within more (drop n bs ++ r) ≡ frames_within most (drop n bs) ++ f ∷ []) → (q : Result (Frame × ℕ) ReadError) → read_of bs ≡ q → records (first_then q (λ n. frames_within most (drop n bs))) ≡ bs → first_then (read_of (bs ++ r)) (λ n. frames_within more (drop n (bs ++ r))) ≡ first_then q (λ n. frames_within most (drop n bs)) ++ f ∷ []
    by next (Ok (g, n)) q w =
        let s = sizes bs g n q in
        let fs = frames_within most (drop n bs) in
        let d : records fs ≡ drop n bs = sym (drop_at (record_of g) (records fs) n (sym s.told)) ∙ ap (drop n) w in
        let ih = next n (omega (arith, length-drop n bs, s.front)) (omega (arith, length-append bs r, length-append (drop n bs) r, length-drop n bs, s.front, s.whole)) d in
        rw (stays bs r g n q) (ap (λ xs. g ∷ frames_within more xs) (drop-append-le n bs r s.whole) ∙ ap (λ l. g ∷ l) ih)
    by next (Err z) q w = ap (λ xs. frames_within (suc more) (xs ++ r)) (sym w) ∙ one (suc more) r f (omega (arith, length-append bs r)) e

-- a frame's record behind those of others
pub record Laid (bs new : List ℕ) (f : Frame) : Type 0 where
  pub frames : frames_in new ≡ frames_in bs ++ f ∷ []
  pub whole : records (frames_in new) ≡ new

pub laid_behind : (bs new : List ℕ) (f : Frame) → FrameFits f → records (frames_in bs) ≡ bs → new ≡ bs ++ record_of f → Laid bs new f
laid_behind bs new f v w e =
    let r = record_of f in
    let alone : read_of r ≡ Ok (f, length r) = rw append-nil at (read_is (back f [] v)) in
    let fs : frames_in (bs ++ r) ≡ frames_in bs ++ f ∷ [] = behind (length bs) (length (bs ++ r)) bs r f (omega arith) (omega arith) w alone in
    let more : records (frames_in bs ++ f ∷ []) ≡ bs ++ r = sym (flat_map_more record_of [] (frames_in bs) f) ∙ ap (λ xs. xs ++ r) w in
    record { frames = ap frames_in e ∙ fs; whole = ap (λ xs. records (frames_in xs)) e ∙ ap records fs ∙ more ∙ sym e }

pub length_record : (f : Frame) → length (record_of f) ≡ 12 + length (compact_bytes f.header) + length f.payload
length_record f = omega (arith, length-append (compact_bytes f.header) f.payload)

pub record_short : (f : Frame) → length (record_of f) ≤ 267 + length f.payload
record_short f = omega (arith, length_record f, compact_short f.header)

-- a vacancy of one is room for the widest record
pub roomy : (free widest : ℕ) → 1 ≤ room_for free widest → 267 + widest ≤ free
roomy free widest h =
    let m : 1 * (267 + widest) ≤ free / (267 + widest) * (267 + widest) = mul-le-mul_right (267 + widest) h in
    omega (arith, div-mul-le_self free (267 + widest), one-mul (267 + widest))

pub div_mono : (a b d : ℕ) → 0 < d → a ≤ b → a / d ≤ b / d
div_mono a b d p h = le-div (a / d) b d p (omega (arith, div-mul-le_self a d))

-- and a record takes at most one
pub falls : (free left widest n : ℕ) → left + n ≡ free → n ≤ 267 + widest → (room_for free widest ≤ room_for left widest + 1) × (room_for left widest ≤ room_for free widest)
falls free left widest n e h =
    let d = 267 + widest in (
      omega (arith, div_mono free (left + d) d (omega arith) (omega arith), add-div_right left {k = d} (omega arith)),
      div_mono left free d (omega arith) (omega arith),
    )

-- memory for so many records has room for as many frames
pub room_of : (o : Option ℕ) (P : Type 0) (places widest : ℕ) → SomeIff o P (places * (267 + widest)) → IfSome o (λ n. room_for n widest ≡ places)
room_of (Some n) P places widest h = ap (λ k. k / (267 + widest)) h.1 ∙ mul-div_left places {n = 267 + widest} (omega arith)
room_of None P places widest h = tt

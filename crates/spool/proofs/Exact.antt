-- A record is read from its bytes and from nothing else.
use Rattle.std.proofs.Common.{◌≡◌, ℕ, ◌+◌, ◌-◌, Bool, true, false, cond, eqb, List, ◌++◌, length, drop, Some, None, refl, sym, ap, ap₂, ◌∙◌, arith}
use Rattle.std.proofs.lemmas.Bool.{eqb-true}
use Rattle.std.specs.Int.{w16, w32, to_le_bytes, from_le_bytes}
use Rattle.std.proofs.lemmas.List.{append_assoc, length-append}
use Rattle.std.proofs.lemmas.Nat.{le_bytes_2, le_bytes_4, from_le_bytes-to_le_bytes_2, from_le_bytes-to_le_bytes_4}
use Rattle.amqp.specs.declared.header.FrameKind.{FrameKind}
use Rattle.amqp.specs.declared.header.FrameKind.TheVariants.{First, Continuation, Disposition}
use Rattle.codec.specs.Headers.{compact_bytes, AtMost255}
use Rattle.codec.specs.Compact.{compact_form}
use Rattle.codec.specs.Forms.{compact_lawful as form_lawful}
use Rattle.codec.proofs.Short.{short}
use Rattle.reader.specs.Compact.{compact_reading}
use Rattle.reader.specs.Compacts.{compact_lawful}
use Rattle.reader.specs.Whole.{exact as header_exact}
use Rattle.sink.specs.Frames.{Frame}
use Rattle.spool.specs.Records.{code_of, record_with, record_of}
use Rattle.spool.specs.Reading.{kind_of, read_of}
use Rattle.spool.specs.Exact.{FrameFits, Exact}
use Rattle.spool.proofs.Parts.{part_first, part_length, Bytes, part_bytes, ReadAs, part_there, part_behind, read_is, read_as}

pub compact_short : AtMost255 compact_bytes
compact_short = short compact_form form_lawful.bounds

-- a number that is read as a kind is the kind's
code_from : (n : ℕ) (k : FrameKind) (a b c : Bool) → eqb n 1 ≡ a → eqb n 2 ≡ b → eqb n 3 ≡ c → cond a (Some First) (cond b (Some Continuation) (cond c (Some Disposition) None)) ≡ Some k → n ≡ code_of k
code_from n k true b c x y z e = let q : First ≡ k = cc in eqb-true n 1 x ∙ ap code_of q
code_from n k false true c x y z e = let q : Continuation ≡ k = cc in eqb-true n 2 y ∙ ap code_of q
code_from n k false false true x y z e = let q : Disposition ≡ k = cc in eqb-true n 3 z ∙ ap code_of q
code_from n k false false false x y z e = absurd (cc)

code_is : (n : ℕ) (k : FrameKind) → kind_of n ≡ Some k → n ≡ code_of k
code_is n k e = code_from n k (eqb n 1) (eqb n 2) (eqb n 3) refl refl refl e

-- joined parts
joined : (b0 r c h s x p d4 d6 d10 d12 d d' : List ℕ) → b0 ≡ r ++ d4 → d4 ≡ c ++ d6 → d6 ≡ h ++ d10 → d10 ≡ s ++ d12 → d12 ≡ x ++ d → d ≡ p ++ d' → b0 ≡ ((r ++ (c ++ (h ++ s))) ++ (x ++ p)) ++ d'
joined b0 r c h s x p d4 d6 d10 d12 d d' a1 a2 a3 a4 a5 a6 = rw (a1, a2, a3, a4, a5, a6) (simp append_assoc)

pub same_record : (r c h s x p header : List ℕ) (kind : FrameKind) (handle : ℕ) → r ≡ to_le_bytes w32 (8 + length x + length p) → c ≡ to_le_bytes w16 (code_of kind) → h ≡ to_le_bytes w32 handle → s ≡ to_le_bytes w16 (length x) → x ≡ header → (r ++ (c ++ (h ++ s))) ++ (x ++ p) ≡ record_with kind handle header p
same_record r c h s x p header kind handle e1 e2 e3 e4 e5 = rw (e1, e2, e3, e4, e5)

-- what is read stands there as its record
pub only : (bs : List ℕ) → Bytes bs → (f : Frame) (n : ℕ) → ReadAs bs f n → (bs ≡ record_of f ++ drop n bs) × (n ≡ length (record_of f))
only bs b f n a =
    let r = from_le_bytes w32 a.rest in
    let s = from_le_bytes w16 a.size in
    let x = a.header in
    let p = f.payload in
    let lx : length x ≡ s = part_length a.header_part in
    let lp : length p ≡ r - 8 - s = part_length a.payload_part in
    let all : r ≡ 8 + length x + length p = omega (arith, a.long, lx, lp) in
    let e1 : a.rest ≡ to_le_bytes w32 (8 + length x + length p) = sym (le_bytes_4 a.rest r (part_length a.rest_part) (part_bytes a.rest_part b) refl) ∙ ap (to_le_bytes w32) all in
    let e2 : a.code ≡ to_le_bytes w16 (code_of f.kind) = sym (le_bytes_2 a.code (from_le_bytes w16 a.code) (part_length a.code_part) (part_bytes a.code_part b) refl) ∙ ap (to_le_bytes w16) (code_is (from_le_bytes w16 a.code) f.kind a.kind_is) in
    let e3 : a.handle ≡ to_le_bytes w32 f.handle = sym (le_bytes_4 a.handle f.handle (part_length a.handle_part) (part_bytes a.handle_part b) a.handle_is) in
    let e4 : a.size ≡ to_le_bytes w16 (length x) = sym (le_bytes_2 a.size s (part_length a.size_part) (part_bytes a.size_part b) refl) ∙ ap (to_le_bytes w16) (sym lx) in
    let e5 : x ≡ compact_bytes f.header = (header_exact compact_reading compact_lawful x).only f.header a.header_is in
    let end : 12 + s + (r - 8 - s) ≡ n = omega (arith, a.long, a.length_is) in
    let j = joined bs a.rest a.code a.handle a.size x p (drop 4 bs) (drop 6 bs) (drop 10 bs) (drop 12 bs) (drop (12 + s) bs) (drop (12 + s + (r - 8 - s)) bs) (part_first a.rest_part) (part_first a.code_part) (part_first a.handle_part) (part_first a.size_part) (part_first a.header_part) (part_first a.payload_part) in
    let e = same_record a.rest a.code a.handle a.size x p (compact_bytes f.header) f.kind f.handle e1 e2 e3 e4 e5 in
    (j ∙ ap₂ (λ y k. y ++ drop k bs) e end, omega (arith, a.length_is, all, ap length e5, length-append (compact_bytes f.header) p))

kind_back : (k : FrameKind) → kind_of (from_le_bytes w16 (to_le_bytes w16 (code_of k))) ≡ Some k
kind_back First = refl
kind_back Continuation = refl
kind_back Disposition = refl

-- a record that stands there is read
pub back : (f : Frame) (more : List ℕ) → FrameFits f → ReadAs (record_of f ++ more) f (length (record_of f))
back f more v =
    let x = compact_bytes f.header in
    let p = f.payload in
    let bs = record_of f ++ more in
    let rest = 8 + length x + length p in
    let r : from_le_bytes w32 (to_le_bytes w32 rest) ≡ rest = from_le_bytes-to_le_bytes_4 rest v.rest in
    let s : from_le_bytes w16 (to_le_bytes w16 (length x)) ≡ length x = from_le_bytes-to_le_bytes_2 (length x) (omega (arith, compact_short f.header)) in
    let l : length bs ≡ 12 + length x + length p + length more = omega (arith, length-append (x ++ p) more, length-append x p) in
    record {
      rest = to_le_bytes w32 rest;
      code = to_le_bytes w16 (code_of f.kind);
      handle = to_le_bytes w32 f.handle;
      size = to_le_bytes w16 (length x);
      header = x;
      rest_part = part_there 4 0 bs (to_le_bytes w32 rest) (drop 4 bs) refl refl (omega arith);
      code_part = part_there 2 4 bs (to_le_bytes w16 (code_of f.kind)) (drop 6 bs) refl refl (omega arith);
      handle_part = part_there 4 6 bs (to_le_bytes w32 f.handle) (drop 10 bs) refl refl (omega arith);
      size_part = part_there 2 10 bs (to_le_bytes w16 (length x)) (drop 12 bs) refl refl (omega arith);
      header_part = part_there _ 12 bs x (p ++ more) (append_assoc x p more) s (omega arith);
      payload_part = part_behind _ 12 bs x p more _ refl s (omega (arith, r, s)) (omega (arith, s, l));
      kind_is = kind_back f.kind;
      handle_is = sym (from_le_bytes-to_le_bytes_4 f.handle v.handle);
      header_is = (header_exact compact_reading compact_lawful x).back f.header v.header refl;
      long = omega (arith, r, s);
      length_is = omega (arith, r, length-append x p);
    }

pub exact : (bs : List ℕ) → Bytes bs → Exact bs (read_of bs)
exact bs b =
    record {
      only = λ f n e. only bs b f n (read_as bs f n e);
      back = λ f more v e. rw e (read_is (back f more v));
    }

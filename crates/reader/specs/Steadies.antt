-- Each form's readings stay what they are, whatever follows.
use Rattle.std.specs.Prelude.{◌≡◌, ℕ, ◌+◌, ◌^◌, ◌<◌, ◌≤◌, true, false, cond, List, ◌++◌, length, Ok, Err, Result, ◌==◌, nat_lt, slice_index, refl}
use Rattle.std.proofs.Common.{arith}
use Rattle.std.proofs.lemmas.Bool.{ltb-false}
use Rattle.reader.specs.Places.{Cursor, Reader, then, byte_at, coded_at, sized_of}
use Rattle.reader.specs.Numbers.{from_at, sized_at}
use Rattle.reader.specs.Fault.{Bytes}
use Rattle.reader.specs.Reading.{Reading}
use Rattle.reader.specs.Fits.{Any}
use Rattle.reader.specs.Compact.{small_at, number_at, compact_bool_at, count_at, compact_list_at, compact_reading}
use Rattle.reader.specs.Wide.{wide_number_at, truth_of, wide_bool_at, wide_list_at, wide_reading}
use Rattle.reader.specs.Steady.{Steady, bind, done, bad, either, cases, lifted, eased, there, room, of_byte, of_number}

-- a reader of values of the kind F, where all that is read are bytes
abbrev pub Follows : {A : Type 0} → (A → Type 0) → Reader A → Type 0
Follows F T = (src more : List ℕ) (at : ℕ) → Steady (λ p. Bytes (src ++ more) → F p.0) (λ p. p.1) (at + 1) at (length src) (T src at) (T (src ++ more) at)

-- a reader of so many bytes
abbrev pub SpanFollows : (ℕ → Reader ℕ) → Type 0
SpanFollows T =
    (src more : List ℕ) → (most at : ℕ)
    → Steady (λ s. (s.0 ≤ most) × (s.1 + s.0 ≤ length (src ++ more))) (λ s. s.1 + s.0) (at + 2) at (length src) (T most src at) (T most (src ++ more) at)

abbrev pub ListFollows : (ℕ → ℕ → List ℕ → ℕ → Result Cursor ℕ) → Type 0
ListFollows T =
    (src more : List ℕ) → (least most at : ℕ) → Steady Any (λ c. c.at) (at + 1) at (length src) (T least most src at) (T least most (src ++ more) at)

pub record SteadyReading (R : Reading) : Type 0 where
  pub uints : Follows (λ x. x < 2 ^ 32) R.uint_at
  pub ulongs : Follows (λ x. x < 2 ^ 64) R.ulong_at
  pub bools : Follows Any R.bool_at
  pub binaries : SpanFollows R.binary_at
  pub symbols : SpanFollows R.symbol_at
  pub lists : ListFollows R.list_at

module _ (src more : List ℕ) where
  pub byte : (b at : ℕ) → Steady (λ p. p ≡ at + 1) (λ p. p) (at + 1) at (length src) (byte_at b src at) (byte_at b (src ++ more) at)
  byte b at =
      there src more at
      (of_byte src more at (λ x. cond (x == b) (Ok (at + 1)) (Err at)) (λ x. cond (x == b) (Ok (at + 1)) (Err at)) (omega arith)
      (λ x v. either (x == b) (done (at + 1) (omega arith) (omega arith) refl) (bad at (omega arith))))

  coded : (code width at : ℕ) → Steady (λ p. (p ≡ at + 1) × (p + width ≤ length (src ++ more))) (λ p. p + width) (at + 1 + width) at (length src) (coded_at code width src at) (coded_at code width (src ++ more) at)
  coded code width at =
      lifted (λ p a f. (omega (arith, f.0), f))
      (bind (byte code at) (λ p a e. eased (omega arith) (omega arith)
      (room src more width p (λ m. done p (omega arith) (omega arith) (e, m)))))

  sized : (width code most at : ℕ) → 1 ≤ width → Steady (λ s. (s.0 ≤ most) × (s.1 + s.0 ≤ length (src ++ more))) (λ s. s.1 + s.0) (at + 2) at (length src) (sized_at width code most src at) (sized_at width code most (src ++ more) at)
  sized width code most at v =
      bind (eased (omega arith) (omega arith) (coded code width at)) (λ p a f.
      of_number src more width p (λ n. sized_of src most n p (p + width)) (λ n. sized_of (src ++ more) most n p (p + width)) (omega arith) (λ n w.
      cases (nat_lt most n) (λ e. bad p (omega arith)) (λ e. (let i = ltb-false most n e in
      eased {lo' = p + width + n} (omega arith) (omega arith) (room src more n (p + width) (λ m. done (n, p + width) (omega arith) (omega arith) (i, m)))))))

  from : (width least at : ℕ) → 1 ≤ width → Steady (λ p. Bytes (src ++ more) → p.0 < 256 ^ width) (λ p. p.1) (at + width) at (length src) (from_at width least src at) (from_at width least (src ++ more) at)
  from width least at v =
      room src more width at (λ m.
      of_number src more width at (λ n. cond (nat_lt n least) (Err at) (Ok (n, at + width))) (λ n. cond (nat_lt n least) (Err at) (Ok (n, at + width))) (omega arith) (λ n w.
      either (nat_lt n least) (bad at (omega arith)) (done (n, at + width) (omega arith) (omega arith) w)))

  small : (at k : ℕ) → 256 ≤ k → Steady (λ p. Bytes (src ++ more) → p.0 < k) (λ p. p.1) (at + 1) at (length src) (small_at src at) (small_at (src ++ more) at)
  small at k v =
      there src more at
      (of_byte src more at (λ b. cond (b == 0) (Err at) (Ok (b, at + 1))) (λ b. cond (b == 0) (Err at) (Ok (b, at + 1))) (omega arith) (λ b w.
      either (b == 0) (bad at (omega arith)) (done (b, at + 1) (omega arith) (omega arith) (λ z. omega (arith, w z)))))

  compact_number : (none small_code wide at k : ℕ) (whole : Reader ℕ) → 256 ≤ k → ((p : ℕ) → Steady (λ p. Bytes (src ++ more) → p.0 < k) (λ p. p.1) (p + 1) p (length src) (whole src p) (whole (src ++ more) p)) → Steady (λ p. Bytes (src ++ more) → p.0 < k) (λ p. p.1) (at + 1) at (length src) (number_at none small_code wide whole src at) (number_at none small_code wide whole (src ++ more) at)
  compact_number none small_code wide at k whole v t =
      there src more at
      (of_byte src more at
      (λ b. cond (b == none) (Ok (0, at + 1)) (cond (b == small_code) (small_at src (at + 1)) (cond (b == wide) (whole src (at + 1)) (Err at))))
      (λ b. cond (b == none) (Ok (0, at + 1)) (cond (b == small_code) (small_at (src ++ more) (at + 1)) (cond (b == wide) (whole (src ++ more) (at + 1)) (Err at)))) (omega arith) (λ b w.
      either (b == none) (done (0, at + 1) (omega arith) (omega arith) (λ z. omega arith))
      (either (b == small_code) (eased (omega arith) (omega arith) (small (at + 1) k v)) (either (b == wide) (eased (omega arith) (omega arith) (t (at + 1))) (bad at (omega arith))))))

  compact_bool : (at : ℕ) → Steady (λ p. Bytes (src ++ more) → Any p.0) (λ p. p.1) (at + 1) at (length src) (compact_bool_at src at) (compact_bool_at (src ++ more) at)
  compact_bool at =
      there src more at
      (of_byte src more at (λ b. cond (b == 0x41) (Ok (true, at + 1)) (cond (b == 0x42) (Ok (false, at + 1)) (Err at))) (λ b. cond (b == 0x41) (Ok (true, at + 1)) (cond (b == 0x42) (Ok (false, at + 1)) (Err at))) (omega arith) (λ b w.
      either (b == 0x41) (done (true, at + 1) (omega arith) (omega arith) (λ z. tt)) (either (b == 0x42) (done (false, at + 1) (omega arith) (omega arith) (λ z. tt)) (bad at (omega arith)))))

  compact_list : (least most at : ℕ) → Steady Any (λ c. c.at) (at + 1) at (length src) (compact_list_at least most src at) (compact_list_at least most (src ++ more) at)
  compact_list least most at =
      there src more at
      (of_byte src more at
      (λ b. cond (b == 0x45) (cond (least == 0) (Ok (record { at = at + 1; left = 0 })) (Err at)) (then (coded_at 0xc0 2 src at) (λ p. count_at least most (slice_index src (p + 1)) (p + 1))))
      (λ b. cond (b == 0x45) (cond (least == 0) (Ok (record { at = at + 1; left = 0 })) (Err at)) (then (coded_at 0xc0 2 (src ++ more) at) (λ p. count_at least most (slice_index (src ++ more) (p + 1)) (p + 1)))) (omega arith) (λ b w.
      either (b == 0x45) (either (least == 0) (done (record { at = at + 1; left = 0 }) (omega arith) (omega arith) tt) (bad at (omega arith)))
      (eased {lo' = at + 1 + 2} {at' = at} (omega arith) (omega arith) (bind (coded 0xc0 2 at) (λ p a f.
      of_byte src more (p + 1) (λ n. count_at least most n (p + 1)) (λ n. count_at least most n (p + 1)) (omega arith) (λ n v.
      either (n == 0) (bad (p + 1) (omega arith)) (either (nat_lt n least) (bad (p + 1) (omega arith)) (either (nat_lt most n) (bad (p + 1) (omega arith))
      (done (record { at = p + 1 + 1; left = n }) (omega arith) (omega arith) tt)))))))))

  wide_number : (width code at k : ℕ) → 256 ^ width ≤ k → Steady (λ p. Bytes (src ++ more) → p.0 < k) (λ p. p.1) (at + 1) at (length src) (wide_number_at width code src at) (wide_number_at width code (src ++ more) at)
  wide_number width code at k v =
      eased (omega arith) (omega arith) (bind (coded code width at) (λ p a f.
      of_number src more width p (λ n. Ok (n, p + width)) (λ n. Ok (n, p + width)) (omega arith) (λ n w.
      done (n, p + width) (omega arith) (omega arith) (λ z. omega (arith, w z)))))

  wide_bool : (at : ℕ) → Steady (λ p. Bytes (src ++ more) → Any p.0) (λ p. p.1) (at + 1) at (length src) (wide_bool_at src at) (wide_bool_at (src ++ more) at)
  wide_bool at =
      eased (omega arith) (omega arith) (bind (coded 0x56 1 at) (λ p a f.
      of_byte src more p (λ b. truth_of b p) (λ b. truth_of b p) (omega arith) (λ b w.
      either (b == 1) (done (true, p + 1) (omega arith) (omega arith) (λ z. tt)) (either (b == 0) (done (false, p + 1) (omega arith) (omega arith) (λ z. tt)) (bad p (omega arith))))))

  wide_list : (least most at : ℕ) → Steady Any (λ c. c.at) (at + 1) at (length src) (wide_list_at least most src at) (wide_list_at least most (src ++ more) at)
  wide_list least most at =
      eased (omega arith) (omega arith) (bind (coded 0xd0 8 at) (λ p a f.
      of_number src more 4 (p + 4) (λ n. cond (n == most) (Ok (record { at = p + 8; left = most })) (Err (p + 4))) (λ n. cond (n == most) (Ok (record { at = p + 8; left = most })) (Err (p + 4))) (omega arith) (λ n w.
      either (n == most) (done (record { at = p + 8; left = most }) (omega arith) (omega arith) tt) (bad (p + 4) (omega arith)))))

pub compact_steady : SteadyReading compact_reading
compact_steady =
    record {
      uints = λ src more at. compact_number src more 0x43 0x52 0x70 at (2 ^ 32) (from_at 4 256) (omega arith) (λ p. eased (omega arith) (omega arith) (from src more 4 256 p (omega arith)));
      ulongs = λ src more at. compact_number src more 0x44 0x53 0x80 at (2 ^ 64) (from_at 8 256) (omega arith) (λ p. eased (omega arith) (omega arith) (from src more 8 256 p (omega arith)));
      bools = λ src more at. compact_bool src more at;
      binaries = λ src more most at. sized src more 1 0xa0 most at (omega arith);
      symbols = λ src more most at. sized src more 1 0xa3 most at (omega arith);
      lists = λ src more least most at. compact_list src more least most at;
    }

pub wide_steady : SteadyReading wide_reading
wide_steady =
    record {
      uints = λ src more at. wide_number src more 4 0x70 at (2 ^ 32) (omega arith);
      ulongs = λ src more at. wide_number src more 8 0x80 at (2 ^ 64) (omega arith);
      bools = λ src more at. wide_bool src more at;
      binaries = λ src more most at. sized src more 4 0xb0 most at (omega arith);
      symbols = λ src more most at. sized src more 4 0xb3 most at (omega arith);
      lists = λ src more least most at. wide_list src more least most at;
    }

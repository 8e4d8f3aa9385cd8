-- A number and its bytes.
use Rattle.std.specs.Prelude.{◌≡◌, ℕ, ◌+◌, ◌*◌, ◌/◌, ◌%◌, ◌^◌, ◌<◌, ◌≤◌, List, length, slice_index, slice_index_or}
use Rattle.std.proofs.Common.{arith, ap}
use Rattle.std.proofs.lemmas.Nat.{shr-shr, div-add-mod'}
use Rattle.amqp.specs.Tags.{be4}
use Rattle.codec.specs.Amqp.{be8}
use Rattle.reader.specs.Places.{Has, number}

pub one : (src : List ℕ) (at : ℕ) → number 1 src at ≡ slice_index src at
one src at = let g0 : slice_index_or src (at + 0) 0 ≡ slice_index_or src at 0 = ap (λ k. slice_index src k) (omega arith) in omega arith

pub four : (src : List ℕ) (at x : ℕ) → x < 2 ^ 32 → Has src at (be4 x) → (at + 4 ≤ length src) × (number 4 src at ≡ x)
four src at x v (a0, a1, (b0, b1, (c0, c1, (d0, d1, z)))) =
    let g0 : slice_index_or src (at + 0) 0 ≡ slice_index_or src at 0 = ap (λ k. slice_index src k) (omega arith) in
    let g2 : slice_index_or src (at + 1 + 1) 0 ≡ slice_index_or src (at + 2) 0 = ap (λ k. slice_index src k) (omega arith) in
    let g3 : slice_index_or src (at + 1 + 1 + 1) 0 ≡ slice_index_or src (at + 3) 0 = ap (λ k. slice_index src k) (omega arith) in
    let e1 : x / 256 / 256 ≡ x / 65536 = shr-shr x 8 8 in
    let e2 : x / 65536 / 256 ≡ x / 16777216 = shr-shr x 16 8 in
    let p0 = div-add-mod' x 256 in
    let p1 : x / 65536 * 256 + x / 256 % 256 ≡ x / 256 = rw e1 at (div-add-mod' (x / 256) 256) in
    let p2 : x / 16777216 * 256 + x / 65536 % 256 ≡ x / 65536 = rw e2 at (div-add-mod' (x / 65536) 256) in
    let w : x / 16777216 % 256 ≡ x / 16777216 = omega arith in
    (omega arith, omega arith)

sum8 : (x x1 x2 x3 x4 x5 x6 x7 r0 r1 r2 r3 r4 r5 r6 : ℕ) → x1 * 256 + r0 ≡ x → x2 * 256 + r1 ≡ x1 → x3 * 256 + r2 ≡ x2 → x4 * 256 + r3 ≡ x3
    → x5 * 256 + r4 ≡ x4 → x6 * 256 + r5 ≡ x5 → x7 * 256 + r6 ≡ x6
    → (x7 * 16777216 + r6 * 65536 + r5 * 256 + r4) * 4294967296 + (r3 * 16777216 + r2 * 65536 + r1 * 256 + r0) ≡ x
sum8 x x1 x2 x3 x4 x5 x6 x7 r0 r1 r2 r3 r4 r5 r6 e0 e1 e2 e3 e4 e5 e6 = omega arith

pub join8 : (x : ℕ) → x < 2 ^ 64
    → (x / 72057594037927936 % 256 * 16777216 + x / 281474976710656 % 256 * 65536 + x / 1099511627776 % 256 * 256 + x / 4294967296 % 256) * 4294967296
    + (x / 16777216 % 256 * 16777216 + x / 65536 % 256 * 65536 + x / 256 % 256 * 256 + x % 256) ≡ x
join8 x v =
    let e1 : x / 256 / 256 ≡ x / 65536 = shr-shr x 8 8 in
    let e2 : x / 65536 / 256 ≡ x / 16777216 = shr-shr x 16 8 in
    let e3 : x / 16777216 / 256 ≡ x / 4294967296 = shr-shr x 24 8 in
    let e4 : x / 4294967296 / 256 ≡ x / 1099511627776 = shr-shr x 32 8 in
    let e5 : x / 1099511627776 / 256 ≡ x / 281474976710656 = shr-shr x 40 8 in
    let e6 : x / 281474976710656 / 256 ≡ x / 72057594037927936 = shr-shr x 48 8 in
    let w : x / 72057594037927936 % 256 ≡ x / 72057594037927936 = omega arith in
    rw w (sum8 x (x / 256) (x / 65536) (x / 16777216) (x / 4294967296) (x / 1099511627776) (x / 281474976710656) (x / 72057594037927936)
    (x % 256) (x / 256 % 256) (x / 65536 % 256) (x / 16777216 % 256) (x / 4294967296 % 256) (x / 1099511627776 % 256) (x / 281474976710656 % 256)
    (div-add-mod' x 256) (rw e1 at (div-add-mod' (x / 256) 256)) (rw e2 at (div-add-mod' (x / 65536) 256)) (rw e3 at (div-add-mod' (x / 16777216) 256))
    (rw e4 at (div-add-mod' (x / 4294967296) 256)) (rw e5 at (div-add-mod' (x / 1099511627776) 256)) (rw e6 at (div-add-mod' (x / 281474976710656) 256)))

pub eight : (src : List ℕ) (at x : ℕ) → x < 2 ^ 64 → Has src at (be8 x) → (at + 8 ≤ length src) × (number 8 src at ≡ x)
eight src at x v (a0, a1, (b0, b1, (c0, c1, (d0, d1, (e0, e1, (f0, f1, (g0, g1, (h0, h1, z)))))))) =
    let i0 : slice_index_or src (at + 0) 0 ≡ slice_index_or src at 0 = ap (λ k. slice_index src k) (omega arith) in
    let i2 : slice_index_or src (at + 1 + 1) 0 ≡ slice_index_or src (at + 2) 0 = ap (λ k. slice_index src k) (omega arith) in
    let i3 : slice_index_or src (at + 1 + 1 + 1) 0 ≡ slice_index_or src (at + 3) 0 = ap (λ k. slice_index src k) (omega arith) in
    let i4 : slice_index_or src (at + 1 + 1 + 1 + 1) 0 ≡ slice_index_or src (at + 4) 0 = ap (λ k. slice_index src k) (omega arith) in
    let i5 : slice_index_or src (at + 1 + 1 + 1 + 1 + 1) 0 ≡ slice_index_or src (at + 5) 0 = ap (λ k. slice_index src k) (omega arith) in
    let i6 : slice_index_or src (at + 1 + 1 + 1 + 1 + 1 + 1) 0 ≡ slice_index_or src (at + 6) 0 = ap (λ k. slice_index src k) (omega arith) in
    let i7 : slice_index_or src (at + 1 + 1 + 1 + 1 + 1 + 1 + 1) 0 ≡ slice_index_or src (at + 7) 0 = ap (λ k. slice_index src k) (omega arith) in
    (omega arith, omega (arith, join8 x v))

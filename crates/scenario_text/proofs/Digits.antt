-- Bytes and their digits.
use Rattle.std.proofs.Common.{◌≡◌, ℕ, zero, suc, ◌⊎◌, inl, inr, ◌+◌, ◌*◌, ◌/◌, ◌%◌, ◌<◌, List, [], ◌∷◌, length, get_or, Result, Ok, Err, codes, refl, sym, ◌∙◌, ap, subst, arith, ◌↔◌, false, cond, ◌==◌}
use Rattle.std.specs.Result.{IsErrOf}
use Rattle.std.proofs.lemmas.Bool.Decides.{nat_tests}
use Rattle.amqp.specs.declared.tag.DeliveryTag.{DeliveryTag}
use Rattle.amqp.specs.Tags.{tag_bytes}
use Rattle.headers_text.specs.Shows.{tag_text}
use Rattle.headers_text.specs.Hex.{glyph, pairs, Digit, Added, Decoded}
use Rattle.headers_text.specs.declared.hex.HexFault.{HexFault}
use Rattle.headers_text.specs.declared.hex.HexFault.TheVariants.{Odd, NoDigit, Memory}
use Rattle.std.specs.Global.{Vec}
use Rattle.scenario_text.specs.Bytes.{ReadsBytes}
use Rattle.scenario_text.specs.Values.{AreBytes, bytes_text}

glyph_digit : (d : ℕ) → d < 16 → Digit (glyph d)
glyph_digit d small = grind (arith, nat_tests)

later : (b : ℕ) (bs : List ℕ) → AreBytes (b ∷ bs) → AreBytes bs
later b bs h = λ k d lt. h (suc k) d (omega arith)

pub length_pairs : (bs : List ℕ) → length (pairs bs) ≡ 2 * length bs
length_pairs [] = refl
length_pairs (b ∷ bs) = omega (arith, length_pairs bs)

pairs_digits : (bs : List ℕ) (i : ℕ) → AreBytes bs → i < length (pairs bs) → Digit (get_or (pairs bs) i 0)
pairs_digits [] i all lt = absurd (omega arith)
pairs_digits (b ∷ bs) zero all lt = glyph_digit (b / 16) (omega (arith, all 0 0 (omega arith)))
pairs_digits (b ∷ bs) (suc zero) all lt = glyph_digit (b % 16) (omega arith)
pairs_digits (b ∷ bs) (suc (suc i)) all lt = pairs_digits bs i (later b bs all) (omega arith)

faultless : (text : List ℕ) (n : ℕ) (bs : List ℕ) → AreBytes bs → text ≡ pairs bs → 2 * n + 1 < length text → (Digit (get_or text (2 * n) 0) → ⊥) ⊎ (Digit (get_or text (2 * n + 1) 0) → ⊥) → ⊥
faultless text n bs all e lt (inl f) =
    let l = ap length e in
    f (subst (λ s. Digit (get_or s (2 * n) 0)) (sym e) (pairs_digits bs (2 * n) all (omega arith)))
faultless text n bs all e lt (inr f) =
    let l = ap length e in
    f (subst (λ s. Digit (get_or s (2 * n + 1) 0)) (sym e) (pairs_digits bs (2 * n + 1) all (omega arith)))

undecoded : (text old new : List ℕ) (f : HexFault) (bs : List ℕ) → Decoded (Err f) text old new → IsErrOf {T = Unit {0}} (Err f) Odd ↔ (length text % 2 ≡ 1) → (f ≡ Memory → ⊥) → AreBytes bs → text ≡ pairs bs → ⊥
undecoded text old new Odd bs d odd there all e =
    let l = ap length e in
    let o = odd.0 refl in
    omega (arith, length_pairs bs)
undecoded text old new NoDigit bs d odd there all e = faultless text (length d.begun.bytes) bs all e d.fault.within d.fault.fault
undecoded text old new Memory bs d odd there all e = there refl

pub not_decoded : (text old new : List ℕ) (f : HexFault) → (text ≡ 45 ∷ [] → ⊥) → Decoded (Err f) text old new → IsErrOf {T = Unit {0}} (Err f) Odd ↔ (length text % 2 ≡ 1) → (f ≡ Memory → ⊥) → (bs : List ℕ) → AreBytes bs → text ≡ bytes_text bs → ⊥
not_decoded text old new f never d odd there [] all e = never e
not_decoded text old new f never d odd there (b ∷ bs) all e = undecoded text old new f (b ∷ bs) d odd there all e

pub no_text : (text : List ℕ) → length text ≡ 0 → (bs : List ℕ) → AreBytes bs → text ≡ bytes_text bs → ⊥
no_text text empty [] all e = let l = ap length e in omega arith
no_text text empty (b ∷ bs) all e = let l = ap length e in omega arith

text_of : (text bs : List ℕ) → (length text ≡ 0 → ⊥) → text ≡ pairs bs → text ≡ bytes_text bs
text_of text [] some e = absurd (some (ap length e))
text_of text (b ∷ bs) some e = e

pub decoded : (text new : List ℕ) → (length text ≡ 0 → ⊥) → Added text [] new → text ≡ bytes_text new
decoded text new some a = subst (λ s. text ≡ bytes_text s) (sym a.after) (text_of text a.bytes some a.written)

by_bytes : (bs : List ℕ) → cond (length bs == 0) (codes "-") (pairs bs) ≡ bytes_text bs
by_bytes [] = refl
by_bytes (b ∷ bs) = let e : (suc (length bs) == 0) ≡ false = grind (arith, nat_tests) in rw e refl

pub dash_read : (text : List ℕ) (v : Vec ℕ) → v.items ≡ [] → text ≡ codes "-" → ReadsBytes text (Ok v)
dash_read text v none e = record { printed = subst (λ bs. text ≡ bytes_text bs) (sym none) e; refused = tt }

pub empty_read : (text : List ℕ) → length text ≡ 0 → ReadsBytes text (Err NoDigit)
empty_read text none = record { printed = tt; refused = λ there bs all e. no_text text none bs all e }

pub fault_read : (text old new : List ℕ) (f : HexFault) (r : Result (Vec ℕ) HexFault) → r ≡ Err f → (text ≡ codes "-" → ⊥) → Decoded (Err f) text old new → IsErrOf {T = Unit {0}} (Err f) Odd ↔ (length text % 2 ≡ 1) → ReadsBytes text r
fault_read text old new f (Ok v) is never d odd = cc
fault_read text old new f (Err g) is never d odd =
    let same : g ≡ f = cc in
    record { printed = tt; refused = λ there bs all e. not_decoded text old new f never d odd (λ m. there (same ∙ m)) bs all e }

pub bytes_read : (text old : List ℕ) (v : Vec ℕ) → (length text ≡ 0 → ⊥) → old ≡ [] → Added text old v.items → ReadsBytes text (Ok v)
bytes_read text old v some none a =
    record { printed = decoded text v.items some (subst (λ o. Added text o v.items) none a); refused = tt }

-- a tag's text is that of its bytes
pub tag_bytes_text : (t : DeliveryTag) → tag_text t ≡ bytes_text (tag_bytes t)
tag_bytes_text t = by_bytes (tag_bytes t)

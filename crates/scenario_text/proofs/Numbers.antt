-- Numbers and their digits.
use Rattle.std.proofs.Common.{◌≡◌, ℕ, inl, inr, sym, ap, ◌∙◌, subst, ◌+◌, ◌^◌, ◌<◌, ◌≤◌, List, length, get_or, refl, arith, Option, None, Some, Result, Ok, Err, Bool, true, false, decimal, codes, leb, zero, suc}
use Rattle.std.specs.Result.{result_ok}
use Rattle.std.specs.Bool.{then_some}
use Rattle.std.specs.Str.Parse.{ParsesUnsigned, AllDigits, digits_value}
use Rattle.std.proofs.lemmas.Fmt.{parse-decimal, digits_decimal, decimal_digit, first_decimal, decimal_nonempty, decimal-digits_value, decimal_injective}
use Rattle.std.proofs.lemmas.Str.Parse.{IsNumeralModel, numerals_by_value, tells_digits, digit_at, parse_plain}
use borrow.Author.Tests.{leb-true, leb-false}
use Rattle.scenario_text.specs.Reading.{Reads}
use Rattle.scenario_text.specs.Values.{HasPlainStart}
use Rattle.scenario_text.proofs.Reading.{none_read}

own : IsNumeralModel (AllDigits 10) (digits_value 10)
own = numerals_by_value (AllDigits 10) tells_digits

pub decimal_digits : (n : ℕ) → n < 2 ^ 64 → AllDigits 10 (decimal n)
decimal_digits n small = digits_decimal own n small

pub decimal_plain : (n : ℕ) → n < 2 ^ 64 → HasPlainStart (decimal n)
decimal_plain zero small = inl (decimal_digit 0 (omega arith))
decimal_plain (suc n) small =
    let d = digit_at (decimal (suc n)) 0 (decimal_digits (suc n) small) (decimal_nonempty (suc n) small) in
    let f = first_decimal (suc n) (omega arith) small in
    inr (omega arith, omega (arith, d))

no_plus : (bs : List ℕ) → HasPlainStart bs → get_or bs 0 0 ≡ 43 → ⊥
no_plus bs (inl e) p = let q : get_or (codes "0") 0 0 ≡ 43 = subst (λ s. get_or s 0 0 ≡ 43) e p in omega arith
no_plus bs (inr r) p = omega arith

lone_zero : (bs : List ℕ) → HasPlainStart bs → get_or bs 0 0 ≡ 48 → length bs ≡ 1
lone_zero bs (inl e) p = ap length e
lone_zero bs (inr r) p = absurd (omega arith)

-- what `parse` reads of such a text was printed so
pub parsed_text : (E : Type 0) (bs : List ℕ) (n : ℕ) → HasPlainStart bs → ParsesUnsigned {E = E} 64 10 bs (Ok n) → bs ≡ decimal n
parsed_text E bs n plain h =
    let p = parse_plain own {E = E} 64 bs (Ok n) h (no_plus bs plain) in
    subst (λ m. bs ≡ decimal m) (sym p.1) (sym (decimal-digits_value own bs p.0.0 p.0.1 (lone_zero bs plain) p.0.2))

within : (most n : ℕ) (bs : List ℕ) (b : Bool) → most < 2 ^ 64 → n < 2 ^ 64 → bs ≡ decimal n → leb n most ≡ b → Reads decimal (λ m. m ≤ most) bs (then_some b n)
within most n bs true small fits e t =
    record {
      printed = (omega (arith, leb-true n most t), e);
      back = λ m le f. ap Some (decimal_injective n m fits (omega arith) (sym e ∙ f));
    }
within most n bs false small fits e t =
    none_read decimal (λ m. m ≤ most) bs (λ m le f. let same = decimal_injective n m fits (omega arith) (sym e ∙ f) in omega (arith, leb-false n most t))

pub number_some : (E : Type 0) (most n : ℕ) (bs : List ℕ) (r : Result ℕ E) → most < 2 ^ 64 → HasPlainStart bs → ParsesUnsigned 64 10 bs r → Some n ≡ result_ok r → Reads decimal (λ m. m ≤ most) bs (then_some (leb n most) n)
number_some E most n bs (Ok m) small plain h e =
    let p = parse_plain own {E = E} 64 bs (Ok m) h (no_plus bs plain) in
    let same : n ≡ m = cc in
    within most n bs (leb n most) small (omega (arith, p.0.2, p.1)) (parsed_text E bs m plain h ∙ ap decimal (sym same)) refl
number_some E most n bs (Err d) small plain h e = cc

pub number_none : {E : Type 0} (most : ℕ) (bs : List ℕ) (r : Result ℕ E) → most < 2 ^ 64 → ParsesUnsigned 64 10 bs r → None ≡ result_ok r → Reads decimal (λ m. m ≤ most) bs None
number_none most bs r small h e =
    none_read decimal (λ n. n ≤ most) bs (λ n le f. let q = parse-decimal 64 n bs r (omega arith) (omega arith) f h in let k = ap result_ok q in cc)

-- a bound said as a power of two
pub narrowed : (most size : ℕ) (bs : List ℕ) (r : Option ℕ) → most + 1 ≡ size → Reads decimal (λ n. n ≤ most) bs r → Reads decimal (λ n. n < size) bs r
narrowed most size bs None s h = none_read decimal (λ n. n < size) bs (λ n lt e. let q = h.back n (omega arith) e in cc)
narrowed most size bs (Some n) s h = record { printed = (omega (arith, h.printed.0), h.printed.1); back = λ m lt e. h.back m (omega arith) e }

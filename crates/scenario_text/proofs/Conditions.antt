-- Conditions and their numbers.
use Rattle.std.proofs.Common.{◌≡◌, ℕ, ◌^◌, ◌<◌, List, Option, None, Some, refl, sym, ◌∙◌, arith, codes, decimal, inl, inr, subst}
use Rattle.std.proofs.lemmas.Fmt.{decimal_digit, decimal_injective}
use Rattle.amqp.specs.declared.condition.AmqpError.{AmqpError}
use Rattle.amqp.specs.declared.condition.AmqpError.TheVariants.{InternalError, NotFound, UnauthorizedAccess, DecodeError, ResourceLimitExceeded, NotAllowed, InvalidField, NotImplemented, ResourceLocked, PreconditionFailed, ResourceDeleted, IllegalState, FrameSizeTooSmall}
use Rattle.amqp.specs.States.{condition_number}
use Rattle.headers_text.specs.Shows.{or_none}
use Rattle.scenario_text.specs.Reading.{Reads, Any}
use Rattle.scenario_text.specs.Values.{HasPlainStart, IfThere, error_text, condition_text}
use Rattle.scenario_text.proofs.Numbers.{decimal_plain}

in_range : (e : AmqpError) → (0 < condition_number e) × (condition_number e < 14)
in_range InternalError = (omega arith, omega arith)
in_range NotFound = (omega arith, omega arith)
in_range UnauthorizedAccess = (omega arith, omega arith)
in_range DecodeError = (omega arith, omega arith)
in_range ResourceLimitExceeded = (omega arith, omega arith)
in_range NotAllowed = (omega arith, omega arith)
in_range InvalidField = (omega arith, omega arith)
in_range NotImplemented = (omega arith, omega arith)
in_range ResourceLocked = (omega arith, omega arith)
in_range PreconditionFailed = (omega arith, omega arith)
in_range ResourceDeleted = (omega arith, omega arith)
in_range IllegalState = (omega arith, omega arith)
in_range FrameSizeTooSmall = (omega arith, omega arith)

zero_text : codes "0" ≡ decimal 0
zero_text = sym (decimal_digit 0 (omega arith))

error_not_zero : (e : AmqpError) → codes "0" ≡ error_text e → ⊥
error_not_zero e h = let same = decimal_injective 0 (condition_number e) (omega arith) (omega (arith, in_range e)) (sym zero_text ∙ h) in omega (arith, in_range e)

zero_read_back : (bs : List ℕ) (x : Option AmqpError) → bs ≡ codes "0" → bs ≡ condition_text x → ◌≡◌ {A = Option (Option AmqpError)} (Some None) (Some x)
zero_read_back bs None z e = refl
zero_read_back bs (Some x) z e = absurd (error_not_zero x (sym z ∙ e))

pub zero_read : (bs : List ℕ) → bs ≡ codes "0" → Reads condition_text Any bs (Some None)
zero_read bs z = record { printed = (tt, z ∙ zero_text); back = λ x any e. zero_read_back bs x z e }

error_read_back : (bs : List ℕ) (r : Option AmqpError) (x : Option AmqpError) → (bs ≡ codes "0" → ⊥) → Reads error_text Any bs r → bs ≡ condition_text x → (e : AmqpError) × (x ≡ Some e) × (r ≡ Some e)
error_read_back bs r None never h e = absurd (never (e ∙ sym zero_text))
error_read_back bs r (Some x) never h e = (x, refl, h.back x tt e)

pub error_is_read : (bs : List ℕ) (e : AmqpError) → (bs ≡ codes "0" → ⊥) → Reads error_text Any bs (Some e) → Reads condition_text Any bs (Some (Some e))
error_is_read bs e never h =
    record { printed = h.printed; back = λ x any f. let b = error_read_back bs (Some e) x never h f in let p = b.1 in let q = b.2 in cc }

pub no_condition : (bs : List ℕ) → (bs ≡ codes "0" → ⊥) → Reads error_text Any bs None → Reads condition_text Any bs None
no_condition bs never h =
    record { printed = tt; back = λ x any f. let b = error_read_back bs None x never h f in let q = b.2 in cc }

letters : HasPlainStart (codes "none") → ⊥
letters (inl e) = cc
letters (inr h) = omega arith

-- no number is a word of letters
not_none : (n : ℕ) → n < 2 ^ 32 → codes "none" ≡ decimal n → ⊥
not_none n small e = letters (subst HasPlainStart (sym e) (decimal_plain n (omega arith)))

no_number_back : (bs : List ℕ) (x : Option ℕ) → bs ≡ codes "none" → IfThere (λ n. n < 2 ^ 32) x → bs ≡ or_none decimal x → ◌≡◌ {A = Option (Option ℕ)} (Some None) (Some x)
no_number_back bs None z fits e = refl
no_number_back bs (Some n) z fits e = absurd (not_none n fits (sym z ∙ e))

pub no_number : (bs : List ℕ) → bs ≡ codes "none" → Reads (or_none decimal) (IfThere (λ n. n < 2 ^ 32)) bs (Some None)
no_number bs z = record { printed = (tt, z); back = λ x fits e. no_number_back bs x z fits e }

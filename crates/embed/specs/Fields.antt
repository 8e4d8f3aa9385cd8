-- Values of fields as C has them.
use Rattle.std.specs.Prelude.{ℕ, Bool, true, false, cond, not, Some, None, Option, ◌==◌}
use Rattle.std.specs.Option.{option_and_then}
use Rattle.amqp.specs.declared.condition.AmqpError.{AmqpError}
use Rattle.amqp.specs.declared.condition.AmqpError.TheVariants.{InternalError, NotFound, UnauthorizedAccess, DecodeError, ResourceLimitExceeded, NotAllowed, InvalidField, NotImplemented, ResourceLocked, PreconditionFailed, ResourceDeleted, IllegalState, FrameSizeTooSmall}

-- what comes of a value, if it is there
abbrev pub given : {A B : Type 0} → Option A → (A → Option B) → Option B
given o f = option_and_then f o

-- a truth value: no for 0
abbrev pub yes : ℕ → Bool
yes n = not (n == 0)

-- a field that may be absent
abbrev pub present : {A : Type 0} → ℕ → A → Option A
present n x = cond (yes n) (Some x) None

-- a truth value that may be absent, if the number stands for one
abbrev pub mark_of : ℕ → Option (Option Bool)
mark_of n =
    cond (n == 0) (Some None)
    (cond (n == 1) (Some (Some false))
    (cond (n == 2) (Some (Some true)) None))

abbrev pub mark_number : Option Bool → ℕ
mark_number None = 0
mark_number (Some false) = 1
mark_number (Some true) = 2

abbrev pub truth_number : Bool → ℕ
truth_number b = cond b 1 0

-- a condition that may be none, if the number stands for one
abbrev pub condition_of : ℕ → Option (Option AmqpError)
condition_of n =
    cond (n == 0) (Some None)
    (cond (n == 1) (Some (Some InternalError))
    (cond (n == 2) (Some (Some NotFound))
    (cond (n == 3) (Some (Some UnauthorizedAccess))
    (cond (n == 4) (Some (Some DecodeError))
    (cond (n == 5) (Some (Some ResourceLimitExceeded))
    (cond (n == 6) (Some (Some NotAllowed))
    (cond (n == 7) (Some (Some InvalidField))
    (cond (n == 8) (Some (Some NotImplemented))
    (cond (n == 9) (Some (Some ResourceLocked))
    (cond (n == 10) (Some (Some PreconditionFailed))
    (cond (n == 11) (Some (Some ResourceDeleted))
    (cond (n == 12) (Some (Some IllegalState))
    (cond (n == 13) (Some (Some FrameSizeTooSmall)) None)))))))))))))

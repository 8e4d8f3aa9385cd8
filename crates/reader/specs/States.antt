-- Reading tags, conditions and delivery states, in any form.
use Rattle.std.specs.Prelude.{ℕ, ◌+◌, cond, List, [], ◌∷◌, take, drop, Some, None, Ok, Err, Option, ◌==◌, nat_lt}
use Rattle.std.specs.List.{find}
use Rattle.std.specs.Str.{bytes_eq}
use Rattle.amqp.specs.declared.condition.AmqpError.{AmqpError}
use Rattle.amqp.specs.declared.condition.AmqpError.TheVariants.{InternalError, NotFound, UnauthorizedAccess, DecodeError, ResourceLimitExceeded, NotAllowed, InvalidField, NotImplemented, ResourceLocked, PreconditionFailed, ResourceDeleted, IllegalState, FrameSizeTooSmall}
use Rattle.amqp.specs.declared.state.DeliveryState.{DeliveryState}
use Rattle.amqp.specs.declared.state.DeliveryState.TheVariants.{Received, Accepted, Rejected, Released, Modified}
use Rattle.amqp.specs.declared.tag.DeliveryTag.{DeliveryTag}
use Rattle.codec.specs.Values.{condition_name}
use Rattle.reader.specs.Places.{Found, Reader, then, byte_at, value_place}
use Rattle.reader.specs.Fields.{must_at, may_at, null_at}
use Rattle.reader.specs.Reading.{Reading}
use Rattle.amqp.specs.Tags.{tag_from}

abbrev pub conditions : List AmqpError
conditions =
    InternalError ∷ NotFound ∷ UnauthorizedAccess ∷ DecodeError ∷ ResourceLimitExceeded ∷ NotAllowed ∷ InvalidField ∷ NotImplemented ∷ ResourceLocked
    ∷ PreconditionFailed ∷ ResourceDeleted ∷ IllegalState ∷ FrameSizeTooSmall ∷ []

-- the first condition that has this name
unfoldable pub condition_of : List ℕ → Option AmqpError
condition_of b = find (λ k. bytes_eq (condition_name k) b) conditions

abbrev pub known_at : Option AmqpError → ℕ → ℕ → Found AmqpError
known_at (Some k) at end = Ok (k, end)
known_at None at end = Err (at + 1)

module _ (R : Reading) where
  -- at most 32 bytes
  abbrev pub tag_at : Reader DeliveryTag
  tag_at src at = then (R.binary_at 32 src at) (λ s. Ok (tag_from (take s.0 (drop s.1 src)), s.1 + s.0))

  -- no condition's name is longer than 28 bytes
  abbrev pub name_at : Reader AmqpError
  name_at src at = then (R.symbol_at 28 src at) (λ s. known_at (condition_of (take s.0 (drop s.1 src))) at (s.1 + s.0))

  -- the code of a described list, and where the list begins
  unfoldable pub described_at : Reader ℕ
  described_at src at = then (byte_at 0x00 src at) (λ p. R.ulong_at src p)

  -- condition, description, info
  abbrev pub error_list_at : Reader AmqpError
  error_list_at src at =
      then (R.list_at 1 3 src at) (λ c. then (must_at name_at src c) (λ k. then (null_at R.form.terse src k.1) (λ a.
      then (null_at R.form.terse src a) (λ b. Ok (k.0, b.at)))))

  unfoldable pub error_at : Reader AmqpError
  error_at src at = then (described_at src at) (λ d. cond (d.0 == 0x1d) (error_list_at src d.1) (Err (value_place (at + 1) d.1)))

  -- section-number, section-offset
  unfoldable pub received_at : Reader DeliveryState
  received_at src at =
      then (R.list_at 2 2 src at) (λ c. then (must_at R.uint_at src c) (λ s. then (must_at R.ulong_at src s.1) (λ o.
      Ok (Received (record { section_number = s.0; section_offset = o.0 }), o.1.at))))

  unfoldable pub rejected_at : Reader DeliveryState
  rejected_at src at = then (R.list_at 0 1 src at) (λ c. then (may_at R.form.terse error_at src c) (λ e. Ok (Rejected e.0, e.1.at)))

  -- delivery-failed, undeliverable-here, message-annotations
  unfoldable pub modified_at : Reader DeliveryState
  modified_at src at =
      then (R.list_at 0 3 src at) (λ c. then (may_at R.form.terse R.bool_at src c) (λ f. then (may_at R.form.terse R.bool_at src f.1) (λ u.
      then (null_at R.form.terse src u.1) (λ a. Ok (Modified f.0 u.0, a.at)))))

  -- a state with no fields
  unfoldable pub plain_at : DeliveryState → Reader DeliveryState
  plain_at s src at = then (R.list_at 0 0 src at) (λ c. Ok (s, c.at))

  -- by the code, from 0x23 to 0x27
  abbrev pub state_by : ℕ → Reader DeliveryState
  state_by code src at =
      cond (code == 0x23) (received_at src at) (cond (code == 0x24) (plain_at Accepted src at) (cond (code == 0x25) (rejected_at src at)
      (cond (code == 0x26) (plain_at Released src at) (modified_at src at))))

  unfoldable pub state_at : Reader DeliveryState
  state_at src at =
      then (described_at src at) (λ d. cond (nat_lt d.0 0x23) (Err (value_place (at + 1) d.1))
      (cond (nat_lt 0x27 d.0) (Err (value_place (at + 1) d.1)) (state_by d.0 src d.1)))

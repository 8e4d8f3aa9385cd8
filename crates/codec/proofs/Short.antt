-- No header is longer than 255 bytes.
use Rattle.std.proofs.Common.{ℕ, ◌+◌, ◌≤◌, Bool, true, false, List, [], ◌∷◌, length, min, Some, None, Option, arith, lit≤}
use Rattle.std.proofs.lemmas.List.{length-append, length-take}
use Rattle.amqp.specs.Tags.{tag_bytes}
use Rattle.amqp.specs.declared.condition.AmqpError.{AmqpError}
use Rattle.amqp.specs.declared.condition.AmqpError.TheVariants.{InternalError, NotFound, UnauthorizedAccess, DecodeError, ResourceLimitExceeded, NotAllowed, InvalidField, NotImplemented, ResourceLocked, PreconditionFailed, ResourceDeleted, IllegalState, FrameSizeTooSmall}
use Rattle.amqp.specs.declared.state.DeliveryState.{DeliveryState}
use Rattle.amqp.specs.declared.state.DeliveryState.TheVariants.{Received, Accepted, Rejected, Released, Modified}
use Rattle.amqp.specs.declared.tag.DeliveryTag.{DeliveryTag}
use Rattle.amqp.specs.declared.header.Header.TheVariants as header
use Rattle.codec.specs.Amqp.{Val, Vals, nil, cons, null, bool, uint, ulong, symbol, list, described}
use Rattle.codec.specs.Form.{Form, encoded, kept, left_out, keep, concat}
use Rattle.codec.specs.Laws.{Bounds}
use Rattle.codec.specs.Headers.{header_bytes, AtMost255}
use Rattle.codec.specs.Values.{optional, flag, tag_value, condition_name, error_value, error_fields, state_value, received_fields, modified_fields, transfer_fields, disposition_fields}

keep_within : (a : Bool) (b : List ℕ) (ts : List (List ℕ)) (m n : ℕ) → length b ≤ m → length (concat ts) ≤ n → length (concat (keep a b ts)) ≤ m + n
keep_within true b [] m n l k = omega arith
keep_within true b (t ∷ ts) m n l k = omega (arith, length-append b (concat (t ∷ ts)))
keep_within false b ts m n l k = omega (arith, length-append b (concat ts))

tag_short : (t : DeliveryTag) → length (tag_bytes t) ≤ 32
tag_short t = omega (arith, length-take (min t.len 32) t.bytes)

name_short : (k : AmqpError) → length (condition_name k) ≤ 28
name_short InternalError = lit≤ tt
name_short NotFound = lit≤ tt
name_short UnauthorizedAccess = lit≤ tt
name_short DecodeError = lit≤ tt
name_short ResourceLimitExceeded = lit≤ tt
name_short NotAllowed = lit≤ tt
name_short InvalidField = lit≤ tt
name_short NotImplemented = lit≤ tt
name_short ResourceLocked = lit≤ tt
name_short PreconditionFailed = lit≤ tt
name_short ResourceDeleted = lit≤ tt
name_short IllegalState = lit≤ tt
name_short FrameSizeTooSmall = lit≤ tt

module _ (F : Form) (L : Bounds F) where
  -- the fields of a list are at most n bytes long
  record Within (vs : Vals) (n : ℕ) : Type 0 where
    pub bytes : length (concat (kept F vs)) ≤ n

  abbrev Short : Val → ℕ → Type 0
  Short v n = length (encoded F v) ≤ n

  none : Within nil 0
  none = record { bytes = omega arith }

  and : {v : Val} {vs : Vals} {m n : ℕ} → Short v m → Within vs n → Within (cons v vs) (m + n)
  and {v} {vs} {m} {n} s w = record { bytes = keep_within (left_out F.terse v) (encoded F v) (kept F vs) m n s w.bytes }

  fields : (code : ℕ) (vs : Vals) (n : ℕ) → Within vs n → Short (described (ulong code) (list vs)) (n + 19)
  fields code vs n w =
      let ts : List (List ℕ) = kept F vs in
      let a = length-append (F.ulongs code) (encoded F (list vs)) in
      let b = length-append (F.lists (length ts) (length (concat ts))) (concat ts) in
      omega (arith, L.ulongs code, L.lists (length ts) (length (concat ts)), w.bytes)

  option : {A : Type 0} (f : A → Val) (n : ℕ) → 1 ≤ n → ((x : A) → Short (f x) n) → (o : Option A) → Short (optional f o) n
  option f n l s None = l
  option f n l s (Some x) = s x

  flagged : (terse b : Bool) → Short (flag terse b) 2
  flagged true true = L.booleans true
  flagged true false = omega arith
  flagged false b = L.booleans b

  tag : (t : DeliveryTag) → Short (tag_value t) 37
  tag t = omega (arith, tag_short t, L.binaries (length (tag_bytes t)), length-append (F.binaries (length (tag_bytes t))) (tag_bytes t))

  name : (k : AmqpError) → Short (symbol (condition_name k)) 33
  name k = omega (arith, name_short k, L.symbols (length (condition_name k)), length-append (F.symbols (length (condition_name k))) (condition_name k))

  absent : Short null 1
  absent = omega arith

  error : (k : AmqpError) → Short (error_value k) 54
  error k = fields 0x1d (error_fields k) _ (and (name k) (and absent (and absent none)))

  maybe : (o : Option Bool) → Short (optional bool o) 2
  maybe o = option bool 2 (omega arith) L.booleans o

  state : (s : DeliveryState) → Short (state_value s) 73
  state (Received p) = omega (arith, fields 0x23 (received_fields p) _ (and (L.uints _) (and (L.ulongs _) none)))
  state Accepted = omega (arith, fields 0x24 nil _ none)
  state (Rejected e) = fields 0x25 (cons (optional error_value e) nil) _ (and (option error_value 54 (omega arith) error e) none)
  state Released = omega (arith, fields 0x26 nil _ none)
  state (Modified f u) = omega (arith, fields 0x27 (modified_fields f u) _ (and (maybe f) (and (maybe u) (and absent none))))

  pub short : AtMost255 (header_bytes F)
  short (header.Transfer h) =
      omega (
        arith,
        fields 0x14 (transfer_fields F.terse h) _
            (and (L.uints h.handle) (and (option uint 5 (omega arith) L.uints h.delivery_id) (and (option tag_value 37 (omega arith) tag h.delivery_tag)
            (and (option uint 5 (omega arith) L.uints h.message_format) (and (maybe h.settled) (and (flagged F.terse h.more) (and absent
            (and (option state_value 73 (omega arith) state h.state) (and (flagged F.terse h.resume) (and (flagged F.terse h.aborted) (and (flagged F.terse h.batchable) none))))))))))),
      )
  short (header.Disposition h) =
      omega (
        arith,
        fields 0x15 (disposition_fields F.terse h) _
            (and (L.booleans false) (and (L.uints h.first) (and absent (and (flagged F.terse h.settled)
            (and (option state_value 73 (omega arith) state h.state) (and (flagged F.terse h.batchable) none)))))),
      )

-- Tags, conditions and states that were written are read back.
use Rattle.std.specs.Prelude.{◌≡◌, ℕ, ◌+◌, ◌<◌, ◌≤◌, min, Bool, false, List, length, Some, None, Ok, Option, Result}
use Rattle.std.proofs.Math.Path.{refl}
use Rattle.std.proofs.Common.{arith, lit≤}
use Rattle.std.proofs.lemmas.List.{length-append, length-take}
use Rattle.std.proofs.lemmas.Bool.{lt-ltb, le-ltb}
use Rattle.amqp.specs.Tags.{tag_bytes}
use Rattle.amqp.specs.declared.condition.AmqpError.{AmqpError}
use Rattle.amqp.specs.declared.condition.AmqpError.TheVariants.{InternalError, NotFound, UnauthorizedAccess, DecodeError, ResourceLimitExceeded, NotAllowed, InvalidField, NotImplemented, ResourceLocked, PreconditionFailed, ResourceDeleted, IllegalState, FrameSizeTooSmall}
use Rattle.amqp.specs.declared.state.Received.{Received as Reached}
use Rattle.amqp.specs.declared.state.DeliveryState.{DeliveryState}
use Rattle.amqp.specs.declared.state.DeliveryState.TheVariants.{Received, Accepted, Rejected, Released, Modified}
use Rattle.amqp.specs.declared.tag.DeliveryTag.{DeliveryTag}
use Rattle.codec.specs.Amqp.{Val, Vals, nil, cons, count, null, uint, ulong, symbol, list, described}
use Rattle.codec.specs.Form.{encoded, kept, absent}
use Rattle.codec.specs.Values.{optional, tag_value, condition_name, error_value, error_fields, received_fields, modified_fields, state_value}
use Rattle.reader.specs.Places.{Cursor, Reader, Has, then}
use Rattle.reader.specs.Reading.{Reading}
use Rattle.reader.specs.States.{condition_of, tag_at, name_at, described_at, error_at, received_at, rejected_at, modified_at, plain_at, state_by, state_at}
use Rattle.reader.specs.Fits.{Within, Any, StateFits}
use Rattle.reader.specs.Laws.{Left, Item, Lawful}
use Rattle.reader.specs.Having.{has_take, has_split}
use Rattle.amqp.proofs.Tags.{tag_is}
use Rattle.reader.specs.Backs.{kept_first, must_back, may_back, null_back, end_of}

pub then_step : {A B : Type 0} {r : Result A ℕ} {x : A} (f : A → Result B ℕ) {y : Result B ℕ} → r ≡ Ok x → f x ≡ y → then r f ≡ y
then_step f e g = rw e g

known : (k : AmqpError) → (condition_of (condition_name k) ≡ Some k) × (length (condition_name k) ≤ 28)
unfolding condition_of
known InternalError = (refl, lit≤ tt)
known NotFound = (refl, lit≤ tt)
known UnauthorizedAccess = (refl, lit≤ tt)
known DecodeError = (refl, lit≤ tt)
known ResourceLimitExceeded = (refl, lit≤ tt)
known NotAllowed = (refl, lit≤ tt)
known InvalidField = (refl, lit≤ tt)
known NotImplemented = (refl, lit≤ tt)
known ResourceLocked = (refl, lit≤ tt)
known PreconditionFailed = (refl, lit≤ tt)
known ResourceDeleted = (refl, lit≤ tt)
known IllegalState = (refl, lit≤ tt)
known FrameSizeTooSmall = (refl, lit≤ tt)

pub any : {A : Type 0} (o : Option A) → Within Any o
any (Some x) = tt
any None = tt

module _ (R : Reading) (L : Lawful R) where
  pub tag : Item R DeliveryTag (tag_at R) tag_value Any
  tag = record { present = λ x. refl; back = λ src at x v h. go src at x v h }
    where
      go : (src : List ℕ) (at : ℕ) (x : DeliveryTag) → Any x → Has src at (encoded R.form (tag_value x)) → tag_at R src at ≡ Ok (x, at + length (encoded R.form (tag_value x)))
      go src at x v h =
          let n : length (tag_bytes x) ≤ 32 = omega (arith, length-take (min x.len 32) x.bytes) in
          let s = L.binaries src at 32 (tag_bytes x) n n h in
          then_step _ s.1 (rw (has_take (tag_bytes x) src s.0 s.2, tag_is x n, s.3))

  pub name : Item R AmqpError (name_at R) (λ k. symbol (condition_name k)) Any
  name =
      record {
        present = λ x. refl;
        back = λ src at k v h.
            (let s = L.symbols src at 28 (condition_name k) (known k).1 (omega (arith, (known k).1)) h in
            then_step _ s.1 (rw (has_take (condition_name k) src s.0 s.2, (known k).0, s.3)));
      }

  -- a described list: its code is read, and its list stands after it
  pub described_back : (src : List ℕ) (at code : ℕ) (vs : Vals) → code < 256 → Has src at (encoded R.form (described (ulong code) (list vs))) → (p : ℕ) × (described_at R src at ≡ Ok (code, p)) × Has src p (encoded R.form (list vs)) × (p + length (encoded R.form (list vs)) ≡ at + length (encoded R.form (described (ulong code) (list vs))))
  unfolding described_at
  described_back src at code vs m (h0, h1, h2) =
      let u : List ℕ = encoded R.form (ulong code) in
      let s = has_split u (encoded R.form (list vs)) src (at + 1) h2 in
      let n = length-append u (encoded R.form (list vs)) in
      (at + 1 + length u, rw (lt-ltb at (length src) h0, h1) (L.ulongs.back src (at + 1) code (omega arith) s.0), s.1, omega arith)

  -- the fields of a list from where they begin
  pub opened : (src : List ℕ) (p least : ℕ) (vs : Vals) (end : ℕ) → p + length (encoded R.form (list vs)) ≡ end → least ≤ length (kept R.form vs) → count vs < 256 → Has src p (encoded R.form (list vs)) → (c : Cursor) × (R.list_at least (count vs) src p ≡ Ok c) × Left R src end c vs
  opened src p least vs end e l m h = rw e at (L.lists src p least vs l m h)

  pub one_kept : (v : Val) (vs : Vals) → absent v ≡ false → 1 ≤ length (kept R.form (cons v vs))
  one_kept v vs e = rw (kept_first R v vs e) (omega arith)

  pub two_kept : (v w : Val) (vs : Vals) → absent v ≡ false → absent w ≡ false → 2 ≤ length (kept R.form (cons v (cons w vs)))
  two_kept v w vs e f = rw (kept_first R v (cons w vs) e, kept_first R w vs f) (omega arith)

  pub error : Item R AmqpError (error_at R) error_value Any
  unfolding error_at
  error = record { present = λ x. refl; back = back }
    where
      back : (src : List ℕ) (at : ℕ) (x : AmqpError) → Any x → Has src at (encoded R.form (error_value x)) → error_at R src at ≡ Ok (x, at + length (encoded R.form (error_value x)))
      back src at k v h =
          let d = described_back src at 0x1d (error_fields k) (omega arith) h in
          let c = opened src d.0 1 (error_fields k) _ d.3 (one_kept (symbol (condition_name k)) (cons null (cons null nil)) refl) (omega arith) d.2 in
          let n = must_back R name k tt c.2 in
          let a = null_back R L n.2 in
          let b = null_back R L a.2 in
          rw (d.1, c.1, n.1, a.1, b.1, end_of b.2)

  -- R reads the list of a state from p on, up to end
  abbrev Back : Vals → DeliveryState → Reader DeliveryState → Type 0
  Back vs x T = (src : List ℕ) (p end : ℕ) → p + length (encoded R.form (list vs)) ≡ end → Has src p (encoded R.form (list vs)) → T src p ≡ Ok (x, end)

  received : (p : Reached) → StateFits (Received p) → Back (received_fields p) (Received p) (received_at R)
  unfolding received_at
  received s v src p end e h =
      let c = opened src p 2 (received_fields s) end e (two_kept (uint s.section_number) (ulong s.section_offset) nil refl refl) (omega arith) h in
      let a = must_back R L.uints s.section_number v.0 c.2 in
      let b = must_back R L.ulongs s.section_offset v.1 a.2 in
      rw (c.1, a.1, b.1, end_of b.2)

  rejected : (k : Option AmqpError) → Back (cons (optional error_value k) nil) (Rejected k) (rejected_at R)
  unfolding rejected_at
  rejected k src p end e h =
      let c = opened src p 0 (cons (optional error_value k) nil) end e (omega arith) (omega arith) h in
      let a = may_back R L error k (any k) c.2 in
      rw (c.1, a.1, end_of a.2)

  modified : (f u : Option Bool) → Back (modified_fields f u) (Modified f u) (modified_at R)
  unfolding modified_at
  modified f u src p end e h =
      let c = opened src p 0 (modified_fields f u) end e (omega arith) (omega arith) h in
      let a = may_back R L L.bools f (any f) c.2 in
      let b = may_back R L L.bools u (any u) a.2 in
      let d = null_back R L b.2 in
      rw (c.1, a.1, b.1, d.1, end_of d.2)

  plain : (x : DeliveryState) → Back nil x (plain_at R x)
  unfolding plain_at
  plain x src p end e h = let c = opened src p 0 nil end e (omega arith) (omega arith) h in rw (c.1, end_of c.2)

  pub state : Item R DeliveryState (state_at R) state_value StateFits
  unfolding state_at
  state = record { present = there; back = λ src at x v h. back x src at v h }
    where
      there : (x : DeliveryState) → ◌≡◌ {A = Bool} (absent (state_value x)) false
      there (Received p) = refl
      there Accepted = refl
      there (Rejected k) = refl
      there Released = refl
      there (Modified f u) = refl

      by : (code : ℕ) (vs : Vals) (x : DeliveryState) (src : List ℕ) (at : ℕ) → 35 ≤ code → code ≤ 39 → Back vs x (state_by R code) → Has src at (encoded R.form (described (ulong code) (list vs))) → state_at R src at ≡ Ok (x, at + length (encoded R.form (described (ulong code) (list vs))))
      by code vs x src at l m b h =
          let d = described_back src at code vs (omega arith) h in
          rw (d.1, le-ltb code 0x23 l, le-ltb 0x27 code m) (b src d.0 _ d.3 d.2)

      back : (x : DeliveryState) (src : List ℕ) (at : ℕ) → StateFits x → Has src at (encoded R.form (state_value x)) → state_at R src at ≡ Ok (x, at + length (encoded R.form (state_value x)))
      back (Received p) src at v h = by 0x23 (received_fields p) (Received p) src at (omega arith) (omega arith) (received p v) h
      back Accepted src at v h = by 0x24 nil Accepted src at (omega arith) (omega arith) (plain Accepted) h
      back (Rejected k) src at v h = by 0x25 (cons (optional error_value k) nil) (Rejected k) src at (omega arith) (omega arith) (rejected k) h
      back Released src at v h = by 0x26 nil Released src at (omega arith) (omega arith) (plain Released) h
      back (Modified f u) src at v h = by 0x27 (modified_fields f u) (Modified f u) src at (omega arith) (omega arith) (modified f u) h

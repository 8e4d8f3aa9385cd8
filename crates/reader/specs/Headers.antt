-- Reading headers, in any form.
use Rattle.std.specs.Prelude.{ℕ, ◌+◌, Bool, cond, List, Ok, Err, Result, ◌==◌}
use Rattle.amqp.specs.declared.header.Header.{Header}
use Rattle.amqp.specs.declared.header.Header.TheVariants.{Transfer, Disposition}
use Rattle.codec.specs.declared.error.ReadError.{ReadError}
use Rattle.codec.specs.declared.error.ReadError.TheVariants.{NotEncoded}
use Rattle.codec.specs.Headers.{header_bytes}
use Rattle.reader.specs.Agree.{only}
use Rattle.reader.specs.Places.{Reader, then, value_place}
use Rattle.reader.specs.Fields.{must_at, may_at, null_at, flag_at}
use Rattle.reader.specs.Reading.{Reading}
use Rattle.reader.specs.States.{tag_at, described_at, state_at}

-- the fault of a boolean that has to be false
abbrev pub false_of : {A : Type 0} → Bool → ℕ → ℕ → Result A ℕ → Result A ℕ
false_of b at end r = cond b (Err (value_place at end)) r

abbrev pub refused : Result Header ℕ → Result Header ReadError
refused (Ok h) = Ok h
refused (Err at) = Err (NotEncoded at)

module _ (R : Reading) where
  -- handle, delivery-id, delivery-tag, message-format, settled, more, rcv-settle-mode, state, resume, aborted, batchable
  unfoldable pub transfer_at : Reader Header
  transfer_at src at =
      then (R.list_at 1 11 src at) (λ c. then (must_at R.uint_at src c) (λ h. then (may_at R.form.terse R.uint_at src h.1) (λ i.
      then (may_at R.form.terse (tag_at R) src i.1) (λ t. then (may_at R.form.terse R.uint_at src t.1) (λ f.
      then (may_at R.form.terse R.bool_at src f.1) (λ s. then (flag_at R src s.1) (λ m. then (null_at R.form.terse src m.1) (λ n.
      then (may_at R.form.terse (state_at R) src n) (λ st. then (flag_at R src st.1) (λ r. then (flag_at R src r.1) (λ a.
      then (flag_at R src a.1) (λ b.
      Ok (
        Transfer (record {
          handle = h.0;
          delivery_id = i.0;
          delivery_tag = t.0;
          message_format = f.0;
          settled = s.0;
          more = m.0;
          state = st.0;
          resume = r.0;
          aborted = a.0;
          batchable = b.0;
        }),
        b.1.at,
      )))))))))))))

  -- role, first, last, settled, state, batchable: the role of a sender is false
  unfoldable pub disposition_at : Reader Header
  disposition_at src at =
      then (R.list_at 2 6 src at) (λ c. then (must_at R.bool_at src c) (λ o. false_of o.0 c.at o.1.at
      (then (must_at R.uint_at src o.1) (λ f. then (null_at R.form.terse src f.1) (λ l. then (flag_at R src l) (λ s.
      then (may_at R.form.terse (state_at R) src s.1) (λ st. then (flag_at R src st.1) (λ b.
      Ok (Disposition (record { first = f.0; settled = s.0; state = st.0; batchable = b.0 }), b.1.at)))))))))

  unfoldable pub header_at : Reader Header
  header_at src at =
      then (described_at R src at) (λ d. cond (d.0 == 0x14) (transfer_at src d.1) (cond (d.0 == 0x15) (disposition_at src d.1)
      (Err (value_place (at + 1) d.1))))

  -- the first code, count or value that does not fit; then the first size, the outer list's before; then the first spare byte
  abbrev pub place_or_header : List ℕ → Result Header ℕ
  place_or_header src = then (header_at src 0) (λ h. only src (header_bytes R.form h.0) h.0)

  abbrev pub read_of : List ℕ → Result Header ReadError
  read_of src = refused (place_or_header src)

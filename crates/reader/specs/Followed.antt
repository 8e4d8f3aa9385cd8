-- Fields, states and headers stay what they are read as, whatever follows, in each form whose own readings do.
use Rattle.std.specs.Prelude.{◌≡◌, ℕ, ◌+◌, ◌-◌, ◌^◌, ◌<◌, ◌≤◌, Bool, true, false, cond, List, ◌++◌, length, Some, None, Ok, Err, Option, Result, ◌==◌, nat_lt, refl}
use Rattle.std.proofs.Common.{arith}
use Rattle.amqp.specs.declared.condition.AmqpError.{AmqpError}
use Rattle.amqp.specs.declared.header.Header.TheVariants.{Transfer, Disposition}
use Rattle.amqp.specs.declared.state.DeliveryState.{DeliveryState}
use Rattle.amqp.specs.declared.state.DeliveryState.TheVariants.{Received, Accepted, Rejected, Released, Modified}
use Rattle.reader.specs.Places.{Cursor, Found, Reader, then, value_place}
use Rattle.reader.specs.Fields.{field_of, must_at, absent_at, some_of, unless, may_at, past_null, null_at, set_of, flag_at}
use Rattle.reader.specs.Fits.{Within, Any, StateFits, Fits}
use Rattle.reader.specs.Headers.{transfer_at, disposition_at, header_at}
use Rattle.reader.specs.Fault.{Bytes}
use Rattle.reader.specs.Reading.{Reading}
use Rattle.reader.specs.States.{condition_of, known_at, tag_at, name_at, described_at, error_at, received_at, rejected_at, modified_at, plain_at, state_at}
use Rattle.reader.specs.Steady.{Steady, bind, done, bad, either, lifted, eased, there, of_byte, of_text}
use Rattle.reader.specs.Steadies.{Follows, SteadyReading, byte}
use Rattle.amqp.specs.Tags.{tag_from}

-- past what was read, or past the byte that says that there is something
abbrev past : ℕ → Option Cursor → ℕ
past at (Some d) = d.at
past at None = at + 1

module _ (src more : List ℕ) where
  -- a field of the kind F
  abbrev pub Field : {A : Type 0} → (A → Type 0) → ℕ → Cursor → Result (A × Cursor) ℕ → Result (A × Cursor) ℕ → Type 0
  Field F lo c r s = Steady (λ p. Bytes (src ++ more) → F p.0) (λ p. p.1.at) lo c.at (length src) r s

  field : {A : Type 0} (F : A → Type 0) (left : ℕ) {lo at : ℕ} (r s : Found A) → Steady (λ p. Bytes (src ++ more) → F p.0) (λ p. p.1) lo at (length src) r s → Steady (λ p. Bytes (src ++ more) → F p.0) (λ p. p.1.at) lo at (length src) (field_of left r) (field_of left s)
  field {A} F left r s t = rw (is_then r, is_then s) (bind t (λ p a f. done (p.0, record { at = p.1; left = left }) (omega arith) (omega arith) f))
    where
      is_then : (r : Found A) → field_of left r ≡ then r (λ p. Ok (p.0, record { at = p.1; left = left }))
      is_then (Ok p) = refl
      is_then (Err e) = refl

  pub must : {A : Type 0} (F : A → Type 0) {T : Reader A} → Follows F T → (c : Cursor) → Field F (c.at + 1) c (must_at T src c) (must_at T (src ++ more) c)
  unfolding must_at
  must F t c = field F (c.left - 1) _ _ (t src more c.at)

  absent : (terse : Bool) (c : Cursor) → Steady Any (past c.at) c.at c.at (length src) (absent_at terse src c) (absent_at terse (src ++ more) c)
  absent terse c =
      either (c.left == 0) (done (Some c) (omega arith) (omega arith) tt)
      (eased {lo' = c.at + 1} {at' = c.at} (omega arith) (omega arith) (there src more c.at
      (of_byte src more c.at
      (λ b. cond (b == 0x40) (cond (cond terse (c.left == 1) false) (Err c.at) (Ok (Some (record { at = c.at + 1; left = c.left - 1 })))) (Ok None))
      (λ b. cond (b == 0x40) (cond (cond terse (c.left == 1) false) (Err c.at) (Ok (Some (record { at = c.at + 1; left = c.left - 1 })))) (Ok None)) (omega arith) (λ b w.
      either (b == 0x40) (either (cond terse (c.left == 1) false) (bad c.at (omega arith)) (done (Some (record { at = c.at + 1; left = c.left - 1 })) (omega arith) (omega arith) tt))
      (done None (omega arith) (omega arith) tt)))))

  some : {A : Type 0} (F : A → Type 0) {lo at : ℕ} (r s : Result (A × Cursor) ℕ) → Steady (λ p. Bytes (src ++ more) → F p.0) (λ p. p.1.at) lo at (length src) r s → Steady (λ p. Bytes (src ++ more) → Within F p.0) (λ p. p.1.at) lo at (length src) (some_of r) (some_of s)
  some {A} F r s t = rw (is_then r, is_then s) (bind t (λ p a f. done (Some p.0, p.1) (omega arith) (omega arith) f))
    where
      is_then : (r : Result (A × Cursor) ℕ) → some_of r ≡ then r (λ p. Ok (Some p.0, p.1))
      is_then (Ok p) = refl
      is_then (Err e) = refl

  pub may : {A : Type 0} (F : A → Type 0) {T : Reader A} (terse : Bool) → Follows F T → (c : Cursor) → Field (Within F) c.at c (may_at terse T src c) (may_at terse T (src ++ more) c)
  unfolding may_at
  may {A} F {T} terse t c = bind (absent terse c) next
    where
      next : (a : Option Cursor) → c.at ≤ past c.at a → Any a → Steady (λ p. Bytes (src ++ more) → Within F p.0) (λ p. p.1.at) (past c.at a) (past c.at a) (length src) (unless a (some_of (must_at T src c))) (unless a (some_of (must_at T (src ++ more) c)))
      next (Some d) l f = done (None, d) (omega arith) (omega arith) (λ z. tt)
      next None l f = eased (omega arith) (omega arith) (some F _ _ (must F t c))

  pub nothing : (terse : Bool) (c : Cursor) → Steady Any (λ d. d.at) c.at c.at (length src) (null_at terse src c) (null_at terse (src ++ more) c)
  unfolding null_at
  nothing terse c = bind (absent terse c) next
    where
      next : (a : Option Cursor) → c.at ≤ past c.at a → Any a → Steady Any (λ d. d.at) (past c.at a) (past c.at a) (length src) (past_null c.at a) (past_null c.at a)
      next (Some d) l f = done d (omega arith) (omega arith) tt
      next None l f = bad c.at (omega arith)

  pub set : {R : Reading} → SteadyReading R → (c : Cursor) → 1 ≤ c.at → Field Any c.at c (flag_at R src c) (flag_at R (src ++ more) c)
  unfolding flag_at
  set {R} S c v = either R.form.terse (bind (may Any R.form.terse S.bools c) next) (eased (omega arith) (omega arith) (must Any S.bools c))
    where
      next : (p : Option Bool × Cursor) → c.at ≤ p.1.at → (Bytes (src ++ more) → Within Any p.0) → Steady (λ p. Bytes (src ++ more) → Any p.0) (λ p. p.1.at) p.1.at p.1.at (length src) (set_of c.at p) (set_of c.at p)
      next (None, d) l f = done (false, d) (omega arith) (omega arith) (λ z. tt)
      next (Some true, d) l f = done (true, d) (omega arith) (omega arith) (λ z. tt)
      next (Some false, d) l f = bad (value_place c.at d.at) (omega arith)

module _ {R : Reading} (S : SteadyReading R) where
  tag : Follows Any (tag_at R)
  tag src more at =
      eased (omega arith) (omega arith) (bind (S.binaries src more 32 at) (λ s a f.
      of_text src more s.0 s.1 (λ b. Ok (tag_from b, s.1 + s.0)) (λ b. Ok (tag_from b, s.1 + s.0)) (omega arith) f.1 (λ b e.
      done (tag_from b, s.1 + s.0) (omega arith) (omega arith) (λ z. tt))))

  name : Follows Any (name_at R)
  name src more at =
      eased (omega arith) (omega arith) (bind (S.symbols src more 28 at) (λ s a f.
      of_text src more s.0 s.1 (λ b. known_at (condition_of b) at (s.1 + s.0)) (λ b. known_at (condition_of b) at (s.1 + s.0)) (omega arith) f.1 (λ b e.
      known (condition_of b) at (s.1 + s.0) (omega arith))))
    where
      known : {Good : Type 0} {l : ℕ} (k : Option AmqpError) (at end : ℕ) → at + 2 ≤ end → Steady (λ p. Good → Any p.0) (λ p. p.1) end end l (known_at k at end) (known_at k at end)
      known (Some k) at end v = done (k, end) (omega arith) (omega arith) (λ z. tt)
      known None at end v = bad (at + 1) (omega arith)

  described : (src more : List ℕ) → (at : ℕ) → Steady (λ p. Bytes (src ++ more) → Any p.0) (λ p. p.1) (at + 2) at (length src) (described_at R src at) (described_at R (src ++ more) at)
  unfolding described_at
  described src more at =
      lifted {G = λ d. at + 2 ≤ d.1} (λ d a f. (f, λ z. tt)) (bind (byte src more 0x00 at) (λ p a e. lifted (λ d b f. (omega arith, omega arith)) (S.ulongs src more p)))

  error : Follows Any (error_at R)
  unfolding error_at
  error src more at =
      eased (omega arith) (omega arith) (bind (described src more at) (λ d a f.
      either (d.0 == 0x1d) (eased (omega arith) (omega arith)
      (bind (S.lists src more 1 3 d.1) (λ c b _.
      bind (eased (omega arith) (omega arith) (must src more Any name c)) (λ k e _.
      bind (nothing src more R.form.terse k.1) (λ n g _.
      bind (nothing src more R.form.terse n) (λ m h _. done (k.0, m.at) (omega arith) (omega arith) (λ z. tt)))))))
      (bad (value_place (at + 1) d.1) (omega arith))))

  received : Follows StateFits (received_at R)
  unfolding received_at
  received src more at =
      bind (S.lists src more 2 2 at) (λ c a _.
      bind (eased (omega arith) (omega arith) (must src more (λ x. x < 2 ^ 32) S.uints c)) (λ s b f.
      bind (eased (omega arith) (omega arith) (must src more (λ x. x < 2 ^ 64) S.ulongs s.1)) (λ o d g.
      done (Received (record { section_number = s.0; section_offset = o.0 }), o.1.at) (omega arith) (omega arith) (λ z. (f z, g z)))))

  rejected : Follows StateFits (rejected_at R)
  unfolding rejected_at
  rejected src more at =
      bind (S.lists src more 0 1 at) (λ c a _.
      bind (may src more Any R.form.terse error c) (λ e b _. done (Rejected e.0, e.1.at) (omega arith) (omega arith) (λ z. tt)))

  modified : Follows StateFits (modified_at R)
  unfolding modified_at
  modified src more at =
      bind (S.lists src more 0 3 at) (λ c a _.
      bind (may src more Any R.form.terse S.bools c) (λ f b _.
      bind (may src more Any R.form.terse S.bools f.1) (λ u d _.
      bind (nothing src more R.form.terse u.1) (λ n e _. done (Modified f.0 u.0, n.at) (omega arith) (omega arith) (λ z. tt)))))

  plain : (s : DeliveryState) → StateFits s → Follows StateFits (plain_at R s)
  unfolding plain_at
  plain s v src more at = bind (S.lists src more 0 0 at) (λ c a _. done (s, c.at) (omega arith) (omega arith) (λ z. v))

  state : Follows StateFits (state_at R)
  unfolding state_at
  state src more at =
      eased (omega arith) (omega arith) (bind (described src more at) (λ d a _.
      either (nat_lt d.0 0x23) (bad (value_place (at + 1) d.1) (omega arith))
      (either (nat_lt 0x27 d.0) (bad (value_place (at + 1) d.1) (omega arith))
      (eased (omega arith) (omega arith)
      (either (d.0 == 0x23) (received src more d.1) (either (d.0 == 0x24) (plain Accepted tt src more d.1) (either (d.0 == 0x25) (rejected src more d.1)
      (either (d.0 == 0x26) (plain Released tt src more d.1) (modified src more d.1)))))))))

  transfer : Follows Fits (transfer_at R)
  unfolding transfer_at
  transfer src more at =
      bind (S.lists src more 1 11 at) (λ c z0 _.
      bind (eased (omega arith) (omega arith) (must src more (λ x. x < 2 ^ 32) S.uints c)) (λ h z1 fh.
      bind (may src more (λ x. x < 2 ^ 32) R.form.terse S.uints h.1) (λ i z2 fi.
      bind (may src more Any R.form.terse tag i.1) (λ t z3 ft.
      bind (may src more (λ x. x < 2 ^ 32) R.form.terse S.uints t.1) (λ f z4 ff.
      bind (may src more Any R.form.terse S.bools f.1) (λ s z5 _.
      bind (set src more S s.1 (omega arith)) (λ m z6 _.
      bind (nothing src more R.form.terse m.1) (λ n z7 _.
      bind (may src more StateFits R.form.terse state n) (λ st z8 fs.
      bind (set src more S st.1 (omega arith)) (λ r z9 _.
      bind (set src more S r.1 (omega arith)) (λ a z10 _.
      bind (set src more S a.1 (omega arith)) (λ b z11 _.
      done (
        Transfer (record {
          handle = h.0;
          delivery_id = i.0;
          delivery_tag = t.0;
          message_format = f.0;
          settled = s.0;
          more = m.0;
          state = st.0;
          resume = r.0;
          aborted = a.0;
          batchable = b.0;
        }),
        b.1.at,
      ) (omega arith) (omega arith) (λ z. record { handle = fh z; id = fi z; format = ff z; state = fs z })))))))))))))

  disposition : Follows Fits (disposition_at R)
  unfolding disposition_at
  disposition src more at =
      bind (S.lists src more 2 6 at) (λ c z0 _.
      bind (eased (omega arith) (omega arith) (must src more Any S.bools c)) (λ o z1 _.
      either o.0 (bad (value_place c.at o.1.at) (omega arith))
      (bind (eased (omega arith) (omega arith) (must src more (λ x. x < 2 ^ 32) S.uints o.1)) (λ f z2 ff.
      bind (nothing src more R.form.terse f.1) (λ l z3 _.
      bind (set src more S l (omega arith)) (λ s z4 _.
      bind (may src more StateFits R.form.terse state s.1) (λ st z5 fs.
      bind (set src more S st.1 (omega arith)) (λ b z6 _.
      done (Disposition (record { first = f.0; settled = s.0; state = st.0; batchable = b.0 }), b.1.at) (omega arith) (omega arith) (λ z. record { first = ff z; state = fs z })))))))))

  pub header : Follows Fits (header_at R)
  unfolding header_at
  header src more at =
      eased (omega arith) (omega arith) (bind (described src more at) (λ d a _.
      either (d.0 == 0x14) (eased (omega arith) (omega arith) (transfer src more d.1))
      (either (d.0 == 0x15) (eased (omega arith) (omega arith) (disposition src more d.1)) (bad (value_place (at + 1) d.1) (omega arith)))))

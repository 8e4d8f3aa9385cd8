-- A byte that stands in place of a code is at fault, in each form.
use Rattle.std.specs.Prelude.{◌≡◌, ℕ, suc, ◌+◌, ◌-◌, ◌<◌, ◌≤◌, Bool, true, false, cond, List, [], ◌∷◌, length, take, Some, None, Ok, Err, Option, Result, ◌⊎◌, ◌==◌, ◌≢◌, slice_index, refl}
use Rattle.std.proofs.Common.{inl, inr, sym, ap, ◌∙◌, arith}
use Rattle.std.proofs.lemmas.Bool.{lt-ltb, ne_eqb, false≢true}
use Rattle.std.proofs.Math.Seq.{take-append-add}
use Rattle.std.proofs.lemmas.List.{length-append, take-append-le}
use Rattle.amqp.specs.Tags.{tag_bytes}
use Rattle.amqp.specs.declared.condition.AmqpError.{AmqpError}
use Rattle.amqp.specs.declared.header.Transfer.{Transfer as TransferOf}
use Rattle.amqp.specs.declared.header.Disposition.{Disposition as DispositionOf}
use Rattle.amqp.specs.declared.header.Header.{Header}
use Rattle.amqp.specs.declared.header.Header.TheVariants.{Transfer, Disposition}
use Rattle.amqp.specs.declared.state.Received.{Received as Reached}
use Rattle.amqp.specs.declared.state.DeliveryState.{DeliveryState}
use Rattle.amqp.specs.declared.state.DeliveryState.TheVariants.{Received, Accepted, Rejected, Released, Modified}
use Rattle.amqp.specs.declared.tag.DeliveryTag.{DeliveryTag}
use Rattle.codec.specs.Amqp.{Val, Vals, nil, cons, count, null, bool, uint, ulong, binary, symbol, list, described}
use Rattle.codec.specs.Form.{Form, encoded, kept, keep, left_out, concat}
use Rattle.codec.specs.Headers.{header_bytes}
use Rattle.codec.specs.Values.{optional, flag, tag_value, condition_name, error_value, error_fields, received_fields, modified_fields, state_value, transfer_fields, disposition_fields, header_value}
use Rattle.reader.specs.Places.{Cursor, Reader, Has, then}
use Rattle.reader.specs.Fields.{must_at, absent_at, may_at, null_at, set_of, flag_at}
use Rattle.reader.specs.Fits.{Within, StateFits, TransferFits, DispositionFits, Fits}
use Rattle.reader.specs.Headers.{transfer_at, disposition_at, header_at, read_of}
use Rattle.reader.specs.Reading.{Reading}
use Rattle.reader.specs.Laws.{Item, Lawful}
use Rattle.reader.specs.Having.{has_split}
use Rattle.reader.specs.States.{tag_at, name_at, described_at, error_at, received_at, rejected_at, modified_at, plain_at, state_at}
use Rattle.reader.specs.Items.{any, name, error, tag, state, one_kept, two_kept}
use Rattle.reader.specs.Codes.{MissingCode, NoCode, Keeps, CodeAt, FieldCodeAt, own, of_descriptor, of_described, of_field, here, later}
use Rattle.reader.specs.Picky.{Refuses, Picky}

-- a code is no further than the end
mutual
  code_in : (F : Form) (v : Val) (p : ℕ) → CodeAt F v p → p ≤ length (encoded F v)
  code_in F u p (own w) = omega arith
  code_in F u p (of_descriptor {d = d} {v = w} {p = q} k) = omega (arith, code_in F d q k, length-append (encoded F d) (encoded F w))
  code_in F u p (of_described {d = d} {v = w} {p = q} k) = omega (arith, code_in F w q k, length-append (encoded F d) (encoded F w))
  code_in F u p (of_field {vs = vs} {p = q} k) =
      let ts : List (List ℕ) = kept F vs in
      omega (arith, fields_in F vs q k, length-append (F.lists (length ts) (length (concat ts))) (concat ts))

  fields_in : (F : Form) (vs : Vals) (p : ℕ) → FieldCodeAt F vs p → p ≤ length (concat (kept F vs))
  fields_in F us p (here {v = v} {vs = ws} {p = q} e k) = rw e (omega (arith, code_in F v q k, length-append (encoded F v) (concat (kept F ws))))
  fields_in F us p (later {v = v} {vs = ws} {p = q} e k) = rw e (omega (arith, fields_in F ws q k, length-append (encoded F v) (concat (kept F ws))))

-- fields that are cut are kept
some_kept : (F : Form) (vs : Vals) (p : ℕ) → FieldCodeAt F vs p → 1 ≤ length (kept F vs)
some_kept F vs p (here e k) = rw e (omega arith)
some_kept F vs p (later e k) = rw e (omega arith)

keep_few : (b : Bool) (t : List ℕ) (ts : List (List ℕ)) → length (keep b t ts) ≤ suc (length ts)
keep_few true t [] = omega arith
keep_few true t (u ∷ us) = omega arith
keep_few false t ts = omega arith

pub few : (F : Form) (vs : Vals) → length (kept F vs) ≤ count vs
few F nil = omega arith
few F (cons v vs) = omega (arith, few F vs, keep_few (left_out F.terse v) (encoded F v) (kept F vs))

keep_all : (b : Bool) (t : List ℕ) (ts : List (List ℕ)) → b ≡ false → length (keep b t ts) ≡ suc (length ts)
keep_all true t ts e = absurd (false≢true (sym e))
keep_all false t ts e = refl

pub all_kept : (F : Form) → F.terse ≡ false → (vs : Vals) → length (kept F vs) ≡ count vs
all_kept F e nil = refl
all_kept F e (cons v vs) = keep_all (left_out F.terse v) (encoded F v) (kept F vs) (ap (λ t. left_out t v) e) ∙ ap suc (all_kept F e vs)

module _ (R : Reading) (L : Lawful R) (P : Picky R) (src : List ℕ) (at : ℕ) (there : at < length src) (none : NoCode (slice_index src at)) where
  -- from c on src has the fields vs up to a code, in whose place a byte stands that is none
  record Cut (c : Cursor) (vs : Vals) : Type 0 where
    p : ℕ
    place : c.at + p ≡ at
    code : FieldCodeAt R.form vs p
    has : Has src c.at (take p (concat (kept R.form vs)))
    left : c.left ≡ length (kept R.form vs)

  -- r is the fault, or what y says of a place where the rest is cut
  abbrev Met : {A : Type 0} → Result A ℕ → (Cursor → A) → Vals → Type 0
  Met {A} r y vs = (r ≡ Err at) ⊎ ((d : Cursor) × (r ≡ Ok (y d)) × Cut d vs)

  goes : {A B : Type 0} {r : Result A ℕ} {y : Cursor → A} {vs : Vals} (f : A → Result B ℕ) → Met r y vs → ((d : Cursor) → Cut d vs → f (y d) ≡ Err at) → then r f ≡ Err at
  goes f (inl e) k = rw e
  goes f (inr (d, e, c)) k = rw e (k d c)

  -- a value that is cut at a code: its first byte is no null's, and T refuses it
  record Broken {A : Type 0} (T : Reader A) (v : Val) : Type 0 where
    cut : (q p : ℕ) → q + p ≡ at → CodeAt R.form v p → Has src q (take p (encoded R.form v)) → (q < length src) × (slice_index src q ≢ 0x40) × (T src q ≡ Err at)

  no_null : (q : ℕ) → q ≡ at → (q < length src) × (slice_index src q ≢ 0x40)
  no_null q e = (omega arith, rw e (none 0x40 refl))

  simple : {A : Type 0} (T : Reader A) (v : Val) → Refuses T → ((p : ℕ) → CodeAt R.form v p → p ≡ 0) → Broken T v
  simple T v t z = record { cut = λ q p e k h. (let o = z p k in let s : q ≡ at = omega arith in let n = no_null q s in (n.0, n.1, rw s (t src at there none))) }

  at_uint : (x p : ℕ) → CodeAt R.form (uint x) p → p ≡ 0
  at_uint x p (own v) = refl

  at_ulong : (x p : ℕ) → CodeAt R.form (ulong x) p → p ≡ 0
  at_ulong x p (own v) = refl

  at_bool : (x : Bool) (p : ℕ) → CodeAt R.form (bool x) p → p ≡ 0
  at_bool x p (own v) = refl

  at_binary : (x : List ℕ) (p : ℕ) → CodeAt R.form (binary x) p → p ≡ 0
  at_binary x p (own v) = refl

  at_symbol : (x : List ℕ) (p : ℕ) → CodeAt R.form (symbol x) p → p ≡ 0
  at_symbol x p (own v) = refl

  at_null : (p : ℕ) → CodeAt R.form null p → p ≡ 0
  at_null p (own v) = refl

  front_of : (q p : ℕ) (v : Val) (vs : Vals) → Keeps R.form v vs → CodeAt R.form v p → Has src q (take p (concat (kept R.form (cons v vs)))) → Has src q (take p (encoded R.form v))
  front_of q p v vs e k h = rw (e, take-append-le p (encoded R.form v) (concat (kept R.form vs)) (code_in R.form v p k)) at h

  rest_of : (q p : ℕ) (v : Val) (vs : Vals) → Keeps R.form v vs → Has src q (take (length (encoded R.form v) + p) (concat (kept R.form (cons v vs)))) → Has src q (encoded R.form v) × Has src (q + length (encoded R.form v)) (take p (concat (kept R.form vs)))
  rest_of q p v vs e h = has_split (encoded R.form v) (take p (concat (kept R.form vs))) src q (rw (e, take-append-add (encoded R.form v) (concat (kept R.form vs)) p) at h)

  -- the field v itself is cut
  abbrev Here : Cursor → Val → Type 0
  Here c v = (p : ℕ) × (c.at + p ≡ at) × CodeAt R.form v p × Has src c.at (take p (encoded R.form v)) × ((c.left == 0) ≡ false)

  -- past the field v
  abbrev past : Cursor → Val → Cursor
  past c v = record { at = c.at + length (encoded R.form v); left = c.left - 1 }

  -- the field v is there, and the fields vs after it are cut
  abbrev Rest : Cursor → Val → Vals → Type 0
  Rest c v vs = Has src c.at (encoded R.form v) × ((c.left == 0) ≡ false) × ((c.left == 1) ≡ false) × Cut (past c v) vs

  -- a field of a list that is cut: it is cut itself, or the rest is
  field : (c : Cursor) (v : Val) (vs : Vals) → Cut c (cons v vs) → Here c v ⊎ Rest c v vs
  field c v vs k = go k.p k.code k.place k.has k.left
    where
      go : (p : ℕ) → FieldCodeAt R.form (cons v vs) p → c.at + p ≡ at → Has src c.at (take p (concat (kept R.form (cons v vs)))) → c.left ≡ length (kept R.form (cons v vs)) → Here c v ⊎ Rest c v vs
      go p (here e f) q h l = let n = rw e at l in inl (p, q, f, front_of c.at p v vs e f h, ne_eqb c.left 0 (λ z. omega arith))
      go p (later {p = r} e f) q h l =
          let n = rw e at l in
          let s = rest_of c.at r v vs e h in
          let m = some_kept R.form vs r f in
          inr (s.0, ne_eqb c.left 0 (λ z. omega arith), ne_eqb c.left 1 (λ z. omega arith), record { p = r; place = omega arith; code = f; has = s.1; left = omega arith })

  must_cut : {A : Type 0} {T : Reader A} {E : A → Val} {V : A → Type 0} → Item R A T E V → ((x : A) → V x → Broken T (E x)) → (c : Cursor) (x : A) (vs : Vals) → V x → Cut c (cons (E x) vs) → Met (must_at T src c) (λ d. (x, d)) vs
  unfolding must_at
  must_cut {A} {T} {E} {V} item broken c x vs v k = go (field c (E x) vs k)
    where
      go : Here c (E x) ⊎ Rest c (E x) vs → Met (must_at T src c) (λ d. (x, d)) vs
      go (inl (p, e, f, h, n)) = inl (rw ((broken x v).cut c.at p e f h).2)
      go (inr (h, n, m, r)) = inr (past c (E x), rw (item.back src c.at x v h), r)

  ended : {B : Type 0} {c : Cursor} → Cut c nil → B
  ended k = go k.p k.code
    where
      go : {B : Type 0} (p : ℕ) → FieldCodeAt R.form nil p → B
      go p k = elim k [ ]

  -- at a byte that is no code stands a field, whatever it is
  present : (c : Cursor) → c.at ≡ at → (c.left == 0) ≡ false → (terse : Bool) → absent_at terse src c ≡ Ok None
  present c e n terse = let z = no_null c.at e in rw (n, lt-ltb c.at (length src) z.0, ne_eqb (slice_index src c.at) 0x40 z.1)

  -- a null is passed where more follows
  passed : (terse : Bool) (c : Cursor) (vs : Vals) → Rest c null vs → absent_at terse src c ≡ Ok (Some (past c null))
  passed true c vs ((h0, h1, h2), n, m, r) = rw (n, lt-ltb c.at (length src) h0, h1, m)
  passed false c vs ((h0, h1, h2), n, m, r) = rw (n, lt-ltb c.at (length src) h0, h1)

  null_cut : (c : Cursor) (vs : Vals) → Cut c (cons null vs) → Met (null_at R.form.terse src c) (λ d. d) vs
  unfolding null_at
  null_cut c vs k = go (field c null vs k)
    where
      go : Here c null ⊎ Rest c null vs → Met (null_at R.form.terse src c) (λ d. d) vs
      go (inl (p, e, f, h, n)) = let z = at_null p f in let q : c.at ≡ at = omega arith in inl (rw (present c q n R.form.terse, q))
      go (inr r) = inr (past c null, rw (passed R.form.terse c vs r), r.3)

  none_cut : {A : Type 0} (T : Reader A) → Refuses T → (c : Cursor) (vs : Vals) → Cut c (cons null vs) → Met (may_at R.form.terse T src c) (λ d. (None, d)) vs
  unfolding may_at must_at
  none_cut {A} T t c vs k = go (field c null vs k)
    where
      go : Here c null ⊎ Rest c null vs → Met {A = Option A × Cursor} (may_at R.form.terse T src c) (λ d. (None, d)) vs
      go (inl (p, e, f, h, n)) = let z = at_null p f in let q : c.at ≡ at = omega arith in inl (rw (present c q n R.form.terse, q, t src at there none))
      go (inr r) = inr (past c null, rw (passed R.form.terse c vs r), r.3)

  some_cut : {A : Type 0} {T : Reader A} {E : A → Val} {V : A → Type 0} → Item R A T E V → ((x : A) → V x → Broken T (E x)) → (c : Cursor) (x : A) (vs : Vals) → V x → Cut c (cons (E x) vs) → Met (may_at R.form.terse T src c) (λ d. (Some x, d)) vs
  unfolding may_at must_at
  some_cut {A} {T} {E} {V} item broken c x vs v k = go (field c (E x) vs k)
    where
      go : Here c (E x) ⊎ Rest c (E x) vs → Met (may_at R.form.terse T src c) (λ d. (Some x, d)) vs
      go (inl (p, e, f, h, n)) = let b = (broken x v).cut c.at p e f h in inl (rw (n, lt-ltb c.at (length src) b.0, ne_eqb (slice_index src c.at) 0x40 b.1, b.2))
      go (inr (h, n, m, r)) =
          let f = L.full (E x) (item.present x) src c.at h in
          inr (past c (E x), rw (n, lt-ltb c.at (length src) f.0, ne_eqb (slice_index src c.at) 0x40 f.1, item.back src c.at x v h), r)

  may_cut : {A : Type 0} {T : Reader A} {E : A → Val} {V : A → Type 0} → Item R A T E V → ((x : A) → V x → Broken T (E x)) → Refuses T → (c : Cursor) (o : Option A) (vs : Vals) → Within V o → Cut c (cons (optional E o) vs) → Met (may_at R.form.terse T src c) (λ d. (o, d)) vs
  may_cut item broken t c (Some x) vs v k = some_cut item broken c x vs v k
  may_cut {A} {T} item broken t c None vs v k = none_cut T t c vs k

  uint_broken : (x : ℕ) → Broken R.uint_at (uint x)
  uint_broken x = simple R.uint_at (uint x) P.uints (at_uint x)

  ulong_broken : (x : ℕ) → Broken R.ulong_at (ulong x)
  ulong_broken x = simple R.ulong_at (ulong x) P.ulongs (at_ulong x)

  bool_broken : (x : Bool) → Broken R.bool_at (bool x)
  bool_broken x = simple R.bool_at (bool x) P.bools (at_bool x)

  flag_cut : (c : Cursor) (b : Bool) (vs : Vals) → Cut c (cons (flag R.form.terse b) vs) → Met (flag_at R src c) (λ d. (b, d)) vs
  unfolding flag_at
  flag_cut c b vs k = go R.form.terse refl b k
    where
      set : (b : Bool) (r : Result (Option Bool × Cursor) ℕ) → (o : Option Bool) → ((d : Cursor) → set_of c.at (o, d) ≡ Ok (b, d)) → Met r (λ d. (o, d)) vs → Met (then r (λ p. set_of c.at p)) (λ d. (b, d)) vs
      set b r o s (inl e) = inl (rw e)
      set b r o s (inr (d, e, k)) = inr (d, rw e (s d), k)

      go : (terse : Bool) → R.form.terse ≡ terse → (b : Bool) → Cut c (cons (flag terse b) vs) → Met (cond terse (then (may_at R.form.terse R.bool_at src c) (λ p. set_of c.at p)) (must_at R.bool_at src c)) (λ d. (b, d)) vs
      go true e true k = set true _ (Some true) (λ d. refl) (some_cut L.bools (λ x _. bool_broken x) c true vs tt k)
      go true e false k = set false _ None (λ d. refl) (none_cut R.bool_at P.bools c vs k)
      go false e b k = must_cut L.bools (λ x _. bool_broken x) c b vs tt k

  -- from q on a list is cut: its own code is missing, or its front stands there and its fields are cut
  abbrev ListCut : ℕ → Vals → Type 0
  ListCut q vs =
      (q ≡ at)
      ⊎ (Has src q (R.form.lists (length (kept R.form vs)) (length (concat (kept R.form vs))))
      × Cut (record { at = q + length (R.form.lists (length (kept R.form vs)) (length (concat (kept R.form vs)))); left = length (kept R.form vs) }) vs)

  list_cut : (q : ℕ) (vs : Vals) (p : ℕ) → q + p ≡ at → CodeAt R.form (list vs) p → Has src q (take p (encoded R.form (list vs))) → ListCut q vs
  list_cut q vs p e (own v) h = inl (omega arith)
  list_cut q vs p e (of_field {p = r} k) h =
      let ts : List (List ℕ) = kept R.form vs in
      let f : List ℕ = R.form.lists (length ts) (length (concat ts)) in
      let s = has_split f (take r (concat ts)) src q (rw (take-append-add f (concat ts) r) at h) in
      inr (s.0, record { p = r; place = omega arith; code = k; has = s.1; left = refl })

  opened_cut : (q least : ℕ) (vs : Vals) → least ≤ length (kept R.form vs) → count vs < 256 → ListCut q vs → Met (R.list_at least (count vs) src q) (λ c. c) vs
  opened_cut q least vs l m (inl e) = inl (rw e (P.lists least (count vs) src at there none))
  opened_cut q least vs l m (inr (h, k)) =
      inr (_, P.fronts src q least (count vs) (length (kept R.form vs)) (length (concat (kept R.form vs))) l (few R.form vs) (omega (arith, few R.form vs)) h (λ e. all_kept R.form e vs), k)

  -- from q on a described list is cut
  abbrev DescribedCut : ℕ → ℕ → Vals → Type 0
  DescribedCut q code vs =
      (q < length src) × (slice_index src q ≢ 0x40) × ((described_at R src q ≡ Err at) ⊎ ((d : ℕ) × (described_at R src q ≡ Ok (code, d)) × ListCut d vs))

  described_cut : (q code : ℕ) (vs : Vals) (p : ℕ) → code < 256 → q + p ≡ at → CodeAt R.form (described (ulong code) (list vs)) p → Has src q (take p (encoded R.form (described (ulong code) (list vs)))) → DescribedCut q code vs
  unfolding described_at
  described_cut q code vs p l e (own v) h =
      let s : q ≡ at = omega arith in
      let z = no_null q s in
      let b : (slice_index src q == 0x00) ≡ false = rw s (ne_eqb _ 0x00 (none 0x00 refl)) in
      (z.0, z.1, inl (rw (lt-ltb q (length src) z.0, b, s)))
  described_cut q code vs p l e (of_descriptor {p = r} k) (h0, h1, h2) =
      let z = at_ulong code r k in
      let s : q + 1 ≡ at = omega arith in
      (h0, (λ f. (let n = h1 in absurd (omega arith))), inl (rw (lt-ltb q (length src) h0, h1, s) (P.ulongs src at there none)))
  described_cut q code vs p l e (of_described {p = r} k) (h0, h1, h2) =
      let u : List ℕ = encoded R.form (ulong code) in
      let s = has_split u (take r (encoded R.form (list vs))) src (q + 1) (rw (take-append-add u (encoded R.form (list vs)) r) at h2) in (
        h0,
        (λ f. (let n = h1 in absurd (omega arith))),
        inr (q + 1 + length u, rw (lt-ltb q (length src) h0, h1) (L.ulongs.back src (q + 1) code (omega arith) s.0), list_cut (q + 1 + length u) vs r (omega arith) k s.1),
      )

  described_refuses : Refuses (described_at R)
  unfolding described_at
  described_refuses s q l n = rw (lt-ltb q (length s) l, ne_eqb _ 0x00 (n 0x00 refl))

  tag_refuses : Refuses (tag_at R)
  tag_refuses s q l n = rw (P.binaries 32 s q l n)

  name_refuses : Refuses (name_at R)
  name_refuses s q l n = rw (P.symbols 28 s q l n)

  error_refuses : Refuses (error_at R)
  unfolding error_at
  error_refuses s q l n = rw (described_refuses s q l n)

  state_refuses : Refuses (state_at R)
  unfolding state_at
  state_refuses s q l n = rw (described_refuses s q l n)

  name_broken : (k : AmqpError) → Broken (name_at R) (symbol (condition_name k))
  name_broken k = simple (name_at R) (symbol (condition_name k)) name_refuses (at_symbol (condition_name k))

  tag_broken : (t : DeliveryTag) → Broken (tag_at R) (tag_value t)
  tag_broken t = simple (tag_at R) (tag_value t) tag_refuses (at_binary (tag_bytes t))

  error_broken : (k : AmqpError) → Broken (error_at R) (error_value k)
  unfolding error_at
  error_broken k = record { cut = λ q p e f h. (let d = described_cut q 0x1d (error_fields k) p (omega arith) e f h in (d.0, d.1, go q d.2)) }
    where
      go : (q : ℕ) → (described_at R src q ≡ Err at) ⊎ ((d : ℕ) × (described_at R src q ≡ Ok (0x1d, d)) × ListCut d (error_fields k)) → error_at R src q ≡ Err at
      go q (inl e) = rw e
      go q (inr (d, e, l)) =
          rw e
          (goes _ (opened_cut d 1 (error_fields k) (one_kept R L (symbol (condition_name k)) (cons null (cons null nil)) refl) (omega arith) l) (λ c m.
          goes _ (must_cut (name R L) (λ x _. name_broken x) c k (cons null (cons null nil)) tt m) (λ c m.
          goes _ (null_cut c (cons null nil) m) (λ c m.
          goes _ (null_cut c nil m) (λ c m. ended m)))))

  -- from q on T refuses a list of these fields that is cut
  abbrev CutList : {A : Type 0} → Reader A → Vals → Type 0
  CutList T vs = (q : ℕ) → ListCut q vs → T src q ≡ Err at

  received_cut : (p : Reached) → StateFits (Received p) → CutList (received_at R) (received_fields p)
  unfolding received_at
  received_cut s v q l =
      goes _ (opened_cut q 2 (received_fields s) (two_kept R L (uint s.section_number) (ulong s.section_offset) nil refl refl) (omega arith) l) (λ c m.
      goes _ (must_cut L.uints (λ x _. uint_broken x) c s.section_number (cons (ulong s.section_offset) nil) v.0 m) (λ c m.
      goes _ (must_cut L.ulongs (λ x _. ulong_broken x) c s.section_offset nil v.1 m) (λ c m. ended m)))

  rejected_cut : (k : Option AmqpError) → CutList (rejected_at R) (cons (optional error_value k) nil)
  unfolding rejected_at
  rejected_cut k q l =
      goes _ (opened_cut q 0 (cons (optional error_value k) nil) (omega arith) (omega arith) l) (λ c m.
      goes _ (may_cut (error R L) (λ x _. error_broken x) error_refuses c k nil (any k) m) (λ c m. ended m))

  modified_cut : (f u : Option Bool) → CutList (modified_at R) (modified_fields f u)
  unfolding modified_at
  modified_cut f u q l =
      goes _ (opened_cut q 0 (modified_fields f u) (omega arith) (omega arith) l) (λ c m.
      goes _ (may_cut L.bools (λ x _. bool_broken x) P.bools c f (cons (optional bool u) (cons null nil)) (any f) m) (λ c m.
      goes _ (may_cut L.bools (λ x _. bool_broken x) P.bools c u (cons null nil) (any u) m) (λ c m.
      goes _ (null_cut c nil m) (λ c m. ended m))))

  plain_cut : (x : DeliveryState) → CutList (plain_at R x) nil
  unfolding plain_at
  plain_cut x q l = goes _ (opened_cut q 0 nil (omega arith) (omega arith) l) (λ c m. ended m)

  state_broken : (x : DeliveryState) → StateFits x → Broken (state_at R) (state_value x)
  unfolding state_at
  state_broken x v = go x v
    where
      by : (code : ℕ) (vs : Vals) (T : Reader DeliveryState) → code < 256 → CutList T vs → ((q d : ℕ) → described_at R src q ≡ Ok (code, d) → state_at R src q ≡ T src d) → Broken (state_at R) (described (ulong code) (list vs))
      by code vs T l t r = record { cut = λ q p e f h. (let d = described_cut q code vs p l e f h in (d.0, d.1, met q d.2)) }
        where
          met : (q : ℕ) → (described_at R src q ≡ Err at) ⊎ ((d : ℕ) × (described_at R src q ≡ Ok (code, d)) × ListCut d vs) → state_at R src q ≡ Err at
          met q (inl e) = rw e
          met q (inr (d, e, l)) = r q d e ∙ t d l

      go : (x : DeliveryState) → StateFits x → Broken (state_at R) (state_value x)
      go (Received p) v = by 0x23 (received_fields p) (received_at R) (omega arith) (received_cut p v) (λ q d e. rw e)
      go Accepted v = by 0x24 nil (plain_at R Accepted) (omega arith) (plain_cut Accepted) (λ q d e. rw e)
      go (Rejected k) v = by 0x25 (cons (optional error_value k) nil) (rejected_at R) (omega arith) (rejected_cut k) (λ q d e. rw e)
      go Released v = by 0x26 nil (plain_at R Released) (omega arith) (plain_cut Released) (λ q d e. rw e)
      go (Modified f u) v = by 0x27 (modified_fields f u) (modified_at R) (omega arith) (modified_cut f u) (λ q d e. rw e)

  transfer_cut : (x : TransferOf) → TransferFits x → CutList (transfer_at R) (transfer_fields R.form.terse x)
  unfolding transfer_at
  transfer_cut x v q l =
      let t : Bool = R.form.terse in
      let r9 : Vals = cons (flag t x.batchable) nil in
      let r8 : Vals = cons (flag t x.aborted) r9 in
      let r7 : Vals = cons (flag t x.resume) r8 in
      let r6 : Vals = cons (optional state_value x.state) r7 in
      let r5 : Vals = cons null r6 in
      let r4 : Vals = cons (flag t x.more) r5 in
      let r3 : Vals = cons (optional bool x.settled) r4 in
      let r2 : Vals = cons (optional uint x.message_format) r3 in
      let r1 : Vals = cons (optional tag_value x.delivery_tag) r2 in
      let r0 : Vals = cons (optional uint x.delivery_id) r1 in
      goes _ (opened_cut q 1 (transfer_fields t x) (one_kept R L (uint x.handle) r0 refl) (omega arith) l) (λ c m.
      goes _ (must_cut L.uints (λ x _. uint_broken x) c x.handle r0 v.handle m) (λ c m.
      goes _ (may_cut L.uints (λ x _. uint_broken x) P.uints c x.delivery_id r1 v.id m) (λ c m.
      goes _ (may_cut (tag R L) (λ x _. tag_broken x) tag_refuses c x.delivery_tag r2 (any x.delivery_tag) m) (λ c m.
      goes _ (may_cut L.uints (λ x _. uint_broken x) P.uints c x.message_format r3 v.format m) (λ c m.
      goes _ (may_cut L.bools (λ x _. bool_broken x) P.bools c x.settled r4 (any x.settled) m) (λ c m.
      goes _ (flag_cut c x.more r5 m) (λ c m.
      goes _ (null_cut c r6 m) (λ c m.
      goes _ (may_cut (state R L) state_broken state_refuses c x.state r7 v.state m) (λ c m.
      goes _ (flag_cut c x.resume r8 m) (λ c m.
      goes _ (flag_cut c x.aborted r9 m) (λ c m.
      goes _ (flag_cut c x.batchable nil m) (λ c m. ended m))))))))))))

  disposition_cut : (x : DispositionOf) → DispositionFits x → CutList (disposition_at R) (disposition_fields R.form.terse x)
  unfolding disposition_at
  disposition_cut x v q l =
      let t : Bool = R.form.terse in
      let r4 : Vals = cons (flag t x.batchable) nil in
      let r3 : Vals = cons (optional state_value x.state) r4 in
      let r2 : Vals = cons (flag t x.settled) r3 in
      let r1 : Vals = cons null r2 in
      let r0 : Vals = cons (uint x.first) r1 in
      goes _ (opened_cut q 2 (disposition_fields t x) (two_kept R L (bool false) (uint x.first) r1 refl refl) (omega arith) l) (λ c m.
      goes _ (must_cut L.bools (λ x _. bool_broken x) c false r0 tt m) (λ c m.
      goes _ (must_cut L.uints (λ x _. uint_broken x) c x.first r1 v.first m) (λ c m.
      goes _ (null_cut c r2 m) (λ c m.
      goes _ (flag_cut c x.settled r3 m) (λ c m.
      goes _ (may_cut (state R L) state_broken state_refuses c x.state r4 v.state m) (λ c m.
      goes _ (flag_cut c x.batchable nil m) (λ c m. ended m)))))))

  header_cut : (h : Header) → Fits h → (q p : ℕ) → CodeAt R.form (header_value R.form.terse h) p → q + p ≡ at → Has src q (take p (header_bytes R.form h)) → header_at R src q ≡ Err at
  unfolding header_at
  header_cut (Transfer x) v q p k e g = go (described_cut q 0x14 (transfer_fields R.form.terse x) p (omega arith) e k g).2
    where
      go : (described_at R src q ≡ Err at) ⊎ ((d : ℕ) × (described_at R src q ≡ Ok (0x14, d)) × ListCut d (transfer_fields R.form.terse x)) → header_at R src q ≡ Err at
      go (inl e) = rw e
      go (inr (d, e, l)) = rw e (transfer_cut x v d l)
  header_cut (Disposition x) v q p k e g = go (described_cut q 0x15 (disposition_fields R.form.terse x) p (omega arith) e k g).2
    where
      go : (described_at R src q ≡ Err at) ⊎ ((d : ℕ) × (described_at R src q ≡ Ok (0x15, d)) × ListCut d (disposition_fields R.form.terse x)) → header_at R src q ≡ Err at
      go (inl e) = rw e
      go (inr (d, e, l)) = rw e (disposition_cut x v d l)

pub missing_code : (R : Reading) → Lawful R → Picky R → (src : List ℕ) → MissingCode R.form src (read_of R src)
missing_code R L P src h v p k g l n = rw (header_cut R L P src p l n h v 0 p k (omega arith) g)

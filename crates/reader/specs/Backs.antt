-- The fields of a list, one at a time: what stands there is read.
use Rattle.std.specs.Prelude.{◌≡◌, ℕ, ◌+◌, ◌-◌, Bool, true, false, cond, List, [], ◌∷◌, length, Some, None, Ok, Option, ◌==◌, nat_lt, slice_index}
use Rattle.std.proofs.Math.Path.{refl}
use Rattle.std.proofs.Common.{arith}
use Rattle.std.proofs.lemmas.List.{length-append}
use Rattle.std.proofs.lemmas.Bool.{lt-ltb, ne_eqb, eq-eqb}
use Rattle.codec.specs.Amqp.{Val, Vals, nil, cons, null}
use Rattle.codec.specs.Form.{encoded, kept, absent, left_out, keep, concat}
use Rattle.codec.specs.Values.{optional, flag}
use Rattle.reader.specs.Places.{Cursor, Reader, Has, then}
use Rattle.reader.specs.Fields.{must_at, absent_at, may_at, null_at, set_of, flag_at}
use Rattle.reader.specs.Reading.{Reading}
use Rattle.reader.specs.Fits.{Within}
use Rattle.reader.specs.Laws.{Tail, Left, Item, Lawful}
use Rattle.reader.specs.Having.{has_split}

pub after : (src : List ℕ) (end : ℕ) (c d : Cursor) (b : List ℕ) (ts : List (List ℕ)) → d.at ≡ c.at + length b → d.left ≡ c.left - 1 → Tail src end c (b ∷ ts) → Has src c.at b × Tail src end d ts
after src end c d b ts e l t =
    let s = has_split b (concat ts) src c.at t.has in
    let n = length-append b (concat ts) in
    let tl = t.left in
    let te = t.ends in
    (s.0, record { has = rw e s.1; left = omega arith; ends = omega arith })

present_stays : (terse : Bool) (v : Val) → absent v ≡ false → left_out terse v ≡ false
present_stays true v e = e
present_stays false v e = refl

-- a field that is present is kept
pub kept_first : (R : Reading) (v : Val) (vs : Vals) → absent v ≡ false → kept R.form (cons v vs) ≡ encoded R.form v ∷ kept R.form vs
kept_first R v vs e = rw (present_stays R.form.terse v e)

module _ (R : Reading) {A : Type 0} {T : Reader A} {E : A → Val} {V : A → Type 0} (item : Item R A T E V) {src : List ℕ} {end : ℕ} {c : Cursor} where
  there : (x : A) (vs : Vals) → Left R src end c (cons (E x) vs) → Has src c.at (encoded R.form (E x)) × ((c.left == 0) ≡ false) × Left R src end (record { at = c.at + length (encoded R.form (E x)); left = c.left - 1 }) vs
  there x vs t =
      let u : Tail src end c (encoded R.form (E x) ∷ kept R.form vs) = rw (kept_first R (E x) vs (item.present x)) at t.tail in
      let a = after src end c (record { at = c.at + length (encoded R.form (E x)); left = c.left - 1 }) (encoded R.form (E x)) (kept R.form vs) refl refl u in
      let ul = u.left in
      (a.0, ne_eqb c.left 0 (λ q. omega arith), record { tail = a.1 })

  pub must_back : (x : A) {vs : Vals} → V x → Left R src end c (cons (E x) vs) → (d : Cursor) × (must_at T src c ≡ Ok (x, d)) × Left R src end d vs
  unfolding must_at
  must_back x {vs} v t = let a = there x vs t in (_, rw (item.back src c.at x v a.0), a.2)

  pub some_back : Lawful R → (x : A) {vs : Vals} → V x → Left R src end c (cons (E x) vs) → (d : Cursor) × (may_at R.form.terse T src c ≡ Ok (Some x, d)) × Left R src end d vs
  unfolding may_at must_at
  some_back L x {vs} v t =
      let a = there x vs t in
      let f = L.full (E x) (item.present x) src c.at a.0 in
      (_, rw (a.1, lt-ltb c.at (length src) f.0, ne_eqb (slice_index src c.at) 0x40 f.1, item.back src c.at x v a.0), a.2)

module _ (src : List ℕ) (end : ℕ) (c : Cursor) where
  null_there : (ts : List (List ℕ)) → Tail src end c ((0x40 ∷ []) ∷ ts) → ((c.left == 0) ≡ false) × (nat_lt c.at (length src) ≡ true) × (slice_index src c.at ≡ 0x40) × Tail src end (record { at = c.at + 1; left = c.left - 1 }) ts
  null_there ts t =
      let a = after src end c (record { at = c.at + 1; left = c.left - 1 }) (0x40 ∷ []) ts refl refl t in
      let tl = t.left in
      (ne_eqb c.left 0 (λ q. omega arith), lt-ltb c.at (length src) a.0.0, a.0.1, a.1)

  absent_back : (terse : Bool) (ts : List (List ℕ)) → Tail src end c (keep (cond terse true false) (0x40 ∷ []) ts) → (d : Cursor) × (absent_at terse src c ≡ Ok (Some d)) × Tail src end d ts
  absent_back true [] t = (c, rw (eq-eqb c.left 0 t.left), t)
  absent_back true (w ∷ ws) t =
      let a = null_there (w ∷ ws) t in
      let tl = t.left in
      (_, rw (a.0, a.1, a.2, ne_eqb c.left 1 (λ q. omega arith)), a.3)
  absent_back false ts t = let a = null_there ts t in (_, rw (a.0, a.1, a.2), a.3)

module _ (R : Reading) (L : Lawful R) where
  pub null_back : {src : List ℕ} {end : ℕ} {c : Cursor} {vs : Vals} → Left R src end c (cons null vs) → (d : Cursor) × (null_at R.form.terse src c ≡ Ok d) × Left R src end d vs
  unfolding null_at
  null_back {src} {end} {c} {vs} t =
      let n = absent_back src end c R.form.terse (kept R.form vs) t.tail in
      (n.0, rw n.1, record { tail = n.2 })

  none_back : {A : Type 0} (T : Reader A) {src : List ℕ} {end : ℕ} {c : Cursor} {vs : Vals} → Left R src end c (cons null vs) → (d : Cursor) × (may_at R.form.terse T src c ≡ Ok (None, d)) × Left R src end d vs
  unfolding may_at
  none_back T {src} {end} {c} {vs} t =
      let n = absent_back src end c R.form.terse (kept R.form vs) t.tail in
      (n.0, rw n.1, record { tail = n.2 })

  pub may_back : {A : Type 0} {T : Reader A} {E : A → Val} {V : A → Type 0} → Item R A T E V → {src : List ℕ} {end : ℕ} {c : Cursor} (o : Option A) {vs : Vals} → Within V o → Left R src end c (cons (optional E o) vs) → (d : Cursor) × (may_at R.form.terse T src c ≡ Ok (o, d)) × Left R src end d vs
  may_back item (Some x) v t = some_back R item L x v t
  may_back {A} {T} item None v t = none_back T t

  pub flag_back : {src : List ℕ} {end : ℕ} {c : Cursor} (b : Bool) {vs : Vals} → Left R src end c (cons (flag R.form.terse b) vs) → (d : Cursor) × (flag_at R src c ≡ Ok (b, d)) × Left R src end d vs
  unfolding flag_at
  flag_back {src} {end} {c} b {vs} t = go R.form.terse refl b t
    where
      go : (terse : Bool) → R.form.terse ≡ terse → (b : Bool) → Left R src end c (cons (flag terse b) vs) → (d : Cursor) × (cond terse (then (may_at R.form.terse R.bool_at src c) (λ p. set_of c.at p)) (must_at R.bool_at src c) ≡ Ok (b, d)) × Left R src end d vs
      go true e true u = let a = some_back R L.bools L true tt u in (a.0, rw a.1, a.2)
      go true e false u = let a = none_back R.bool_at u in (a.0, rw a.1, a.2)
      go false e b u = must_back R L.bools b tt u

pub end_of : {R : Reading} {src : List ℕ} {end : ℕ} {c : Cursor} → Left R src end c nil → c.at ≡ end
end_of t = let te = t.tail.ends in omega arith

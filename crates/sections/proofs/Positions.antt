-- A place has one position, the first that the search finds, or none.
use Rattle.std.proofs.Common.{◌≡◌, ℕ, zero, suc, ◌+◌, ◌-◌, ◌<◌, ◌≤◌, Bool, true, false, cond, eqb, leb, List, length, Some, None, Option, sym, refl, ap, ◌∙◌, ⊎_elim, arith}
use Rattle.std.specs.List.{find, range_with_len}
use Rattle.std.proofs.lemmas.Bool.{and_parts, and_from, leb-true, le-leb, eqb-true, eq-eqb, cases_lt, both_ways, false_from_ne_true}
use Rattle.amqp.specs.declared.state.Received.{Received}
use Rattle.sections.specs.Sections.{begins_at, begun_before, lies_at, start_of, IsAt, OnePosition}
use Rattle.sections.proofs.Counting.{begun_one, begun_grows, begun_stays, one_start}

-- what a search of a range finds passes, and where it finds nothing, nothing passes
found_passes : (p : ℕ → Bool) (a n i : ℕ) → find p (range_with_len a n) ≡ Some i → (p i ≡ true) × (i < a + n)
found_passes p a zero i e = absurd (cc)
found_passes p a (suc n) i e = go (p a) (find p (range_with_len (a + 1) n)) refl e (found_passes p (a + 1) n i)
  where
    go : (b : Bool) (o : Option ℕ) → p a ≡ b → cond b (Some a) o ≡ Some i → (o ≡ Some i → (p i ≡ true) × (i < a + 1 + n)) → (p i ≡ true) × (i < a + suc n)
    go true o h f rest = let s : a ≡ i = cc in (ap p (sym s) ∙ h, omega arith)
    go false o h f rest = let r = rest f in (r.0, omega (arith, r.1))

none_passes : (p : ℕ → Bool) (a n : ℕ) → find p (range_with_len a n) ≡ None → (i : ℕ) → a ≤ i → i < a + n → p i ≡ false
none_passes p a zero e i l m = absurd (omega arith)
none_passes p a (suc n) e i l m = go (p a) (find p (range_with_len (a + 1) n)) refl e (λ f k. none_passes p (a + 1) n f i k (omega arith))
  where
    go : (b : Bool) (o : Option ℕ) → p a ≡ b → cond b (Some a) o ≡ None → (o ≡ None → a + 1 ≤ i → p i ≡ false) → p i ≡ false
    go true o h f rest = absurd (cc)
    go false o h f rest =
        ⊎_elim (λ (k : a < i). rest f (omega arith)) (λ (k : i ≤ a). let s : i ≡ a = omega arith in ap p s ∙ h) (cases_lt a i)

-- the test says what it is to be a place's position
is_at : (msg : List ℕ) (place : Received) (i : ℕ) → i < length msg - 2 → lies_at msg place i ≡ true → IsAt msg place i
is_at msg place i l h =
    let start = i - place.section_offset in
    let p = and_parts (leb place.section_offset i) _ h in
    let q = and_parts (begins_at msg start) _ p.1 in
    let r = and_parts (eqb (begun_before msg start) place.section_number) _ q.1 in
    let before = eqb-true (begun_before msg start) place.section_number r.0 in
    let upto = eqb-true (begun_before msg (i + 1)) (place.section_number + 1) r.1 in
    record {
      inside = omega arith;
      start = start;
      offset = omega (arith, leb-true place.section_offset i p.0);
      begins = q.0;
      number = before;
      no_later = λ k a b.
          false_from_ne_true (begins_at msg k)
          (λ t. omega (arith, before, upto, begun_one msg start q.0, begun_grows msg (start + 1) k (omega arith), begun_one msg k t, begun_grows msg (k + 1) (i + 1) (omega arith)));
    }

lies : (msg : List ℕ) (place : Received) (i : ℕ) → IsAt msg place i → (i < length msg - 2) × (lies_at msg place i ≡ true)
lies msg place i h =
    let s : h.start ≡ i - place.section_offset = omega (arith, h.offset) in
    let upto = begun_stays msg h.start i (omega (arith, h.offset)) h.no_later ∙ begun_one msg h.start h.begins in (
      omega (arith, h.inside),
      and_from _ _ (le-leb place.section_offset i (omega (arith, h.offset)))
          (and_from _ _ (ap (begins_at msg) (sym s) ∙ h.begins)
          (and_from _ _ (eq-eqb _ _ (ap (begun_before msg) (sym s) ∙ h.number)) (eq-eqb _ _ (omega (arith, upto, h.number))))),
    )

one_position : (msg : List ℕ) (place : Received) (i j : ℕ) → IsAt msg place i → IsAt msg place j → j ≡ i
one_position msg place i j a b =
    let s = one_start msg a.start b.start a.begins b.begins (a.number ∙ sym b.number) in
    omega (arith, s, a.offset, b.offset)

-- the answer of the search is the one position of the place
pub found_is_the_one : (msg : List ℕ) (place : Received) (r : Option ℕ) → r ≡ start_of msg place → OnePosition msg place r
found_is_the_one msg place None e = λ i h.
    let l = lies msg place i h in
    both_ways _ (none_passes (lies_at msg place) 0 (length msg - 2) (sym e) i (omega arith) (omega (arith, l.0))) l.1
found_is_the_one msg place (Some i) e =
    let f = found_passes (lies_at msg place) 0 (length msg - 2) i (sym e) in
    let a = is_at msg place i (omega (arith, f.1)) f.0 in
    (a, λ j b. one_position msg place i j a b)

-- where a place has no position, or has this one, the search answers so
pub nowhere : (msg : List ℕ) (place : Received) → ((i : ℕ) → IsAt msg place i → ⊥) → None ≡ start_of msg place
nowhere msg place none = go (start_of msg place) (found_is_the_one msg place (start_of msg place) refl)
  where
    go : (o : Option ℕ) → OnePosition msg place o → None ≡ o
    go None one = refl
    go (Some i) one = absurd (none i one.0)

pub here : (msg : List ℕ) (place : Received) (i : ℕ) → IsAt msg place i → Some i ≡ start_of msg place
here msg place i at = go (start_of msg place) (found_is_the_one msg place (start_of msg place) refl)
  where
    go : (o : Option ℕ) → OnePosition msg place o → Some i ≡ o
    go None one = absurd (one i at)
    go (Some j) one = ap Some (one.1 i at)

pub the_only : (msg : List ℕ) (place : Received) (i : ℕ) → IsAt msg place i → OnePosition msg place (Some i)
the_only msg place i at = (at, λ j b. one_position msg place i j at b)

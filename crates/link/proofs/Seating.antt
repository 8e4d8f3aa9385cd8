-- The first free seat behind those that are taken, and seats that an index finds by their numbers.
use Rattle.std.proofs.Common.{◌≡◌, ℕ, ◌+◌, ◌<◌, ◌≤◌, true, false, List, length, get_or, set, replicate, is_some, Some, None, Ok, Option, refl, sym, ap, ◌∙◌, subst, ⊎_elim, arith}
use Rattle.std.specs.Option.{ok_or}
use Rattle.amqp.specs.declared.error.TicketError.TheVariants.{NoSeat}
use Rattle.std.specs.List.{list_any, position}
use Rattle.std.proofs.lemmas.List.{take_all, get_or-replicate, length-set, length-replicate}
use Rattle.std.proofs.lemmas.List.Folds.{Any-from_list_any, list_any_at}
use Rattle.std.proofs.lemmas.List.Quantifiers.{position-Some}
use Rattle.std.proofs.lemmas.Bool.{both_ways, eq-eqb, eqb-true, false_from_ne_true}
use Rattle.unsettled.specs.Indexes.{is_key}
use Rattle.unsettled.specs.Keyed.{Keyed}
use Rattle.unsettled.proofs.Firsts.{none_passes}
use Rattle.unsettled.proofs.Keyed.{keyed_first, keyed_nowhere, keyed_over, keyed_set}
use Rattle.unsettled.proofs.Threads.{read_set}
use Rattle.link.specs.declared.seat.Seat.{Seat}
use Rattle.link.specs.declared.seat.Seat.TheVariants.{Free, Pending, Ended}
use Rattle.link.specs.Seating.{number_of, Taken}
use Rattle.link.specs.Seats.{is_free, sits}

taken_not_free : (s : Seat) → is_some (number_of s) ≡ true → is_free s ≡ false
taken_not_free Free h = absurd (cc)
taken_not_free (Pending n) h = refl
taken_not_free (Ended n o) h = refl

pub none_before : (n : ℕ) (ss : List Seat) → Taken n ss → (k : ℕ) → k < n → is_free (get_or ss k Free) ≡ false
none_before n ss t k a = taken_not_free _ (t.each k Free a)

pub any_free : (ss : List Seat) (o : Option ℕ) → o ≡ position is_free ss → is_some o ≡ list_any is_free ss
any_free ss None e =
    sym (false_from_ne_true _
    (λ t.
    let a = Any-from_list_any is_free ss t in
    both_ways _ (none_passes is_free ss a.0 a.1 e a.2) (ap is_free a.3 ∙ a.4)))
any_free ss (Some i) e =
    let f = position-Some is_free ss i Free (sym e) in
    sym (list_any_at is_free ss i Free f.0 f.1)

-- ---- a number's seat

key_is : (n : ℕ) (o : Option ℕ) → is_key n o ≡ true → o ≡ Some n
key_is n None h = absurd (cc)
key_is n (Some m) h = ap Some (eqb-true m n h)

number_sits : (n : ℕ) (s : Seat) → number_of s ≡ Some n → sits n s ≡ true
number_sits n Free h = absurd (cc)
number_sits n (Pending m) h = eq-eqb m n (cc)
number_sits n (Ended m o) h = eq-eqb m n (cc)

sits_number : (n : ℕ) (s : Seat) → sits n s ≡ true → number_of s ≡ Some n
sits_number n Free h = absurd (cc)
sits_number n (Pending m) h = ap Some (eqb-true m n h)
sits_number n (Ended m o) h = ap Some (eqb-true m n h)

pub seat_first : (n : ℕ) (keys : List (Option ℕ)) (ss : List Seat) (i : ℕ) → Keyed number_of keys (length ss) ss → i < length ss → Some i ≡ position (is_key n) keys → Some i ≡ position (sits n) ss
unfolding Keyed
seat_first n keys ss i h lt e =
    let f = position-Some (is_key n) keys i None (sym e) in
    let all = take_all (length ss) ss (omega arith) in
    let here = number_sits n (get_or ss i Free) (sym (h.each i Free lt f.0) ∙ key_is n _ f.1) in
    keyed_first number_of (sits n) keys (length ss) ss n i Free h (omega arith) (sits_number n) e (subst (λ xs. i < length xs) (sym all) lt) (ap (λ xs. sits n (get_or xs i Free)) all ∙ here)
    ∙ ap (position (sits n)) all

pub seat_nowhere : (n : ℕ) (keys : List (Option ℕ)) (ss : List Seat) → Keyed number_of keys (length ss) ss → length ss ≤ length keys → None ≡ position (is_key n) keys → None ≡ position (sits n) ss
seat_nowhere n keys ss h le e =
    keyed_nowhere number_of (sits n) keys (length ss) ss n Free h (omega arith) le (sits_number n) e ∙ ap (position (sits n)) (take_all (length ss) ss (omega arith))

-- ---- what is written

pub told_keyed : (n : ℕ) (keys : List (Option ℕ)) (ss : List Seat) (i : ℕ) (y : Seat) → Keyed number_of keys (length ss) ss → number_of y ≡ Some n → Some i ≡ position (sits n) ss → Keyed number_of keys (length (set ss i y)) (set ss i y)
told_keyed n keys ss i y h e at =
    subst (λ k. Keyed number_of keys k (set ss i y)) (sym (length-set ss i y))
    (keyed_over number_of keys (length ss) ss i y (λ x _. sits_number n _ (position-Some (sits n) ss i x (sym at)).1 ∙ sym e) (position-Some (sits n) ss i Free (sym at)).0 h)

pub seat_keyed : (keys : List (Option ℕ)) (ss : List Seat) (i : ℕ) (y : Seat) → Keyed number_of keys (length ss) ss → i < length ss → Keyed number_of (set keys i (number_of y)) (length (set ss i y)) (set ss i y)
seat_keyed keys ss i y h lt = subst (λ k. Keyed number_of (set keys i (number_of y)) k (set ss i y)) (sym (length-set ss i y)) (keyed_set number_of keys (length ss) ss i y lt h)

-- the same of a seat that a call wrote
pub seat_written : (keys under : List (Option ℕ)) (ss ts : List Seat) (i : ℕ) (y : Seat) → Keyed number_of keys (length ss) ss → i < length ss → ts ≡ set ss i y → under ≡ set keys i (number_of y) → Keyed number_of under (length ts) ts
seat_written keys under ss ts i y h lt w u = rw (w, u) (seat_keyed keys ss i y h lt)

pub told_taken : (n i : ℕ) (ss : List Seat) (y : Seat) → Taken n ss → i < length ss → is_some (number_of y) ≡ true → Taken n (set ss i y)
told_taken n i ss y t lt e =
    record {
      within = omega (arith, t.within, length-set ss i y);
      each = λ k d a. ⊎_elim (λ s. ap (λ x. is_some (number_of x)) s.1 ∙ e) (λ s. ap (λ x. is_some (number_of x)) s.1 ∙ t.each k d a) (read_set ss i k y d lt);
    }

not_free_taken : (s : Seat) → is_free s ≡ false → is_some (number_of s) ≡ true
not_free_taken Free h = absurd (cc)
not_free_taken (Pending n) h = refl
not_free_taken (Ended n o) h = refl

pub sat_taken : (i : ℕ) (ss : List Seat) (y : Seat) → Some i ≡ position is_free ss → is_some (number_of y) ≡ true → Taken (i + 1) (set ss i y)
sat_taken i ss y at e =
    let lt = (position-Some is_free ss i Free (sym at)).0 in
    record {
      within = omega (arith, lt, length-set ss i y);
      each = λ k d a.
          ⊎_elim (λ s. ap (λ x. is_some (number_of x)) s.1 ∙ e)
          (λ s.
          let ne = s.0 in
          ap (λ x. is_some (number_of x)) s.1 ∙ not_free_taken _ ((position-Some is_free ss i d (sym at)).2 k (omega (arith, ne, a))))
          (read_set ss i k y d lt);
    }

pub sat_written : (i : ℕ) (ss ts : List Seat) (y : Seat) → ts ≡ set ss i y → Some i ≡ position is_free ss → is_some (number_of y) ≡ true → Taken (i + 1) ts
sat_written i ss ts y w at e = rw w (sat_taken i ss y at e)

pub nobody_sits : (m : ℕ) (keys : List (Option ℕ)) (ss : List Seat) → keys ≡ replicate 1024 None → ss ≡ replicate m Free → Keyed number_of keys (length ss) ss
unfolding Keyed
nobody_sits m keys ss e f =
    record {
      each = λ k x a r.
          let n : length keys ≡ 1024 = ap length e ∙ length-replicate {A = Option ℕ} 1024 None in
          let l : length ss ≡ m = ap length f ∙ length-replicate m Free in
          ap (λ ks. get_or ks k None) e
          ∙ get_or-replicate {A = Option ℕ} 1024 k None None (omega (arith, n, r))
          ∙ sym (ap number_of (ap (λ xs. get_or xs k x) f ∙ get_or-replicate m k Free x (omega (arith, l, a))));
    }

pub vacated_keyed : (n : ℕ) (keys under : List (Option ℕ)) (ss ts : List Seat) (o : Option ℕ) (i : ℕ) (y : Seat) → Keyed number_of keys (length ss) ss → o ≡ position (sits n) ss → ok_or o NoSeat ≡ Ok i → ts ≡ set ss i y → under ≡ set keys i (number_of y) → Keyed number_of under (length ts) ts
vacated_keyed n keys under ss ts None i y h e k w u = absurd (cc)
vacated_keyed n keys under ss ts (Some j) i y h e k w u =
    let same : j ≡ i = cc in
    let lt = (position-Some (sits n) ss j Free (sym e)).0 in
    seat_written keys under ss ts i y h (omega (arith, same, lt)) w u

-- What the seats tell when deliveries sit down, end and leave.
use Rattle.std.proofs.Common.{◌≡◌, ℕ, ◌≤◌, true, false, cond, eqb, List, [], ◌∷◌, ◌++◌, length, Some, None, Option, sym, refl, true≢false, arith}
use Rattle.std.specs.List.{list_any}
use Rattle.std.proofs.lemmas.Bool.Decides.{nat_tests}
use Rattle.link.specs.declared.delivery.Outcome.{Outcome}
use Rattle.link.specs.declared.seat.Seat.{Seat}
use Rattle.link.specs.declared.seat.Seat.TheVariants.{Free, Pending, Ended}
use Rattle.link.specs.Seats.{is_free, sit, tell, vacate, seat_of}
use Rattle.link.specs.Turns.{End, sit_all, tell_all, vacate_all}
use Rattle.runs.proofs.Words.{among, outcomes}

-- a seat that is taken tells how the delivery ended; one that is not stays so
abbrev pub telling : Option (Option Outcome) → Outcome → Option (Option Outcome)
telling None o = None
telling (Some x) o = Some (Some o)

abbrev pub telling_all : Option (Option Outcome) → List Outcome → Option (Option Outcome)
telling_all x [] = x
telling_all x (o ∷ os) = telling_all (telling x o) os

pub seat_tell : (n k : ℕ) (o : Outcome) (ss : List Seat) → seat_of n (tell k o ss) ≡ cond (eqb n k) (telling (seat_of n ss) o) (seat_of n ss)
seat_tell n k o [] = grind arith
seat_tell n k o (Free ∷ ss) = seat_tell n k o ss
seat_tell n k o (Pending j ∷ ss) = let ih = seat_tell n k o ss in grind (arith, nat_tests)
seat_tell n k o (Ended j p ∷ ss) = let ih = seat_tell n k o ss in grind (arith, nat_tests)

pub seat_tell_all : (n : ℕ) (es : List End) (ss : List Seat) → seat_of n (tell_all es ss) ≡ telling_all (seat_of n ss) (outcomes n es)
seat_tell_all n [] ss = refl
seat_tell_all n (e ∷ es) ss = let ih = seat_tell_all n es (tell e.number e.outcome ss) in let m = seat_tell n e.number e.outcome ss in grind arith

seat_sit_other : (n k : ℕ) (ss : List Seat) → eqb n k ≡ false → seat_of n (sit k ss) ≡ seat_of n ss
seat_sit_other n k [] h = refl
seat_sit_other n k (Free ∷ ss) h = grind (arith, nat_tests)
seat_sit_other n k (Pending j ∷ ss) h = let ih = seat_sit_other n k ss in grind (arith, nat_tests)
seat_sit_other n k (Ended j p ∷ ss) h = let ih = seat_sit_other n k ss in grind (arith, nat_tests)

pub seat_sit_others : (n : ℕ) (ks : List ℕ) (ss : List Seat) → among n ks ≡ 0 → seat_of n (sit_all ks ss) ≡ seat_of n ss
seat_sit_others n [] ss h = refl
seat_sit_others n (k ∷ ks) ss h =
    let ih = seat_sit_others n ks (sit k ss) in
    let j = seat_sit_other n k ss in
    grind arith

pub seat_sit : (n : ℕ) (ss : List Seat) → seat_of n ss ≡ None → list_any is_free ss ≡ true → seat_of n (sit n ss) ≡ Some None
seat_sit n [] h f = absurd (true≢false (sym f))
seat_sit n (Free ∷ ss) h f = grind (arith, nat_tests)
seat_sit n (Pending j ∷ ss) h f = let ih = seat_sit n ss in grind (arith, nat_tests)
seat_sit n (Ended j p ∷ ss) h f = let ih = seat_sit n ss in grind (arith, nat_tests)

seat_vacate : (n k : ℕ) (ss : List Seat) → eqb n k ≡ false → seat_of n (vacate k ss) ≡ seat_of n ss
seat_vacate n k [] h = refl
seat_vacate n k (Free ∷ ss) h = seat_vacate n k ss h
seat_vacate n k (Pending j ∷ ss) h = let ih = seat_vacate n k ss in grind (arith, nat_tests)
seat_vacate n k (Ended j p ∷ ss) h = let ih = seat_vacate n k ss in grind (arith, nat_tests)

pub seat_vacate_all : (n : ℕ) (ks : List ℕ) (ss : List Seat) → among n ks ≡ 0 → seat_of n (vacate_all ks ss) ≡ seat_of n ss
seat_vacate_all n [] ss h = refl
seat_vacate_all n (k ∷ ks) ss h = let ih = seat_vacate_all n ks (vacate k ss) in let j = seat_vacate n k ss in grind arith

-- a number without a seat gets none by others' leaving
seat_vacate_none : (n k : ℕ) (ss : List Seat) → seat_of n ss ≡ None → seat_of n (vacate k ss) ≡ None
seat_vacate_none n k [] h = refl
seat_vacate_none n k (Free ∷ ss) h = seat_vacate_none n k ss h
seat_vacate_none n k (Pending j ∷ ss) h = let ih = seat_vacate_none n k ss in grind (arith, nat_tests)
seat_vacate_none n k (Ended j p ∷ ss) h = let ih = seat_vacate_none n k ss in grind (arith, nat_tests)

pub seat_none_left : (n : ℕ) (ks : List ℕ) (ss : List Seat) → seat_of n ss ≡ None → seat_of n (vacate_all ks ss) ≡ None
seat_none_left n [] ss h = h
seat_none_left n (k ∷ ks) ss h = seat_none_left n ks (vacate k ss) (seat_vacate_none n k ss h)

pub telling_none : (os : List Outcome) → telling_all None os ≡ None
telling_none [] = refl
telling_none (o ∷ os) = telling_none os

-- what is told after at most one outcome in all
abbrev pub progress_of : List Outcome → Option Outcome
progress_of [] = None
progress_of (o ∷ os) = Some o

pub telling_progress : (os new : List Outcome) → length (os ++ new) ≤ 1 → telling_all (Some (progress_of os)) new ≡ Some (progress_of (os ++ new))
telling_progress [] [] h = refl
telling_progress [] (o ∷ []) h = refl
telling_progress [] (o ∷ (p ∷ os)) h = absurd (omega arith)
telling_progress (o ∷ os) [] h = refl
telling_progress (o ∷ []) (p ∷ new) h = absurd (omega arith)
telling_progress (o ∷ (q ∷ os)) (p ∷ new) h = absurd (omega arith)

-- What the fault of a put says of the sink, and back.
use Rattle.std.proofs.Common.{◌≡◌, ℕ, ◌≤◌, Bool, true, false, ltb, Some, None, Ok, Err, Option, Result, refl, arith}
use Rattle.std.proofs.lemmas.Bool.{ltb-false, le-ltb}
use Rattle.amqp.specs.declared.stop.SessionStopReason.{SessionStopReason}
use Rattle.sink.specs.Frames.{refused, fault_of, answer}

pub record Room (s : Option SessionStopReason) (widest vacancy width count : ℕ) : Type 0 where
  pub runs : s ≡ None
  pub narrow : width ≤ widest
  pub places : count ≤ vacancy

clear : (s : Option SessionStopReason) (a b : Bool) → refused s a b ≡ None → (s ≡ None) × (a ≡ false) × (b ≡ false)
clear (Some r) a b e = let z : ◌≡◌ {A = ℕ} 0 1 = cc in absurd (omega arith)
clear None true b e = let z : ◌≡◌ {A = ℕ} 0 1 = cc in absurd (omega arith)
clear None false true e = let z : ◌≡◌ {A = ℕ} 0 1 = cc in absurd (omega arith)
clear None false false e = (refl, refl, refl)

pub room_from : (s : Option SessionStopReason) (widest vacancy width count : ℕ) → fault_of s widest vacancy width count ≡ None → Room s widest vacancy width count
room_from s widest vacancy width count e =
    let p = clear s (ltb widest width) (ltb vacancy count) e in
    record { runs = p.0; narrow = ltb-false widest width p.1; places = ltb-false vacancy count p.2 }

pub none_from : (s : Option SessionStopReason) (widest vacancy width count : ℕ) → Room s widest vacancy width count → fault_of s widest vacancy width count ≡ None
none_from s widest vacancy width count m =
    rw (m.runs, le-ltb widest width m.narrow, le-ltb vacancy count m.places)

pub none_from_ok : {E : Type 0} (o : Option E) (r : Result (Unit {0}) E) (u : Unit {0}) → r ≡ Ok u → r ≡ answer o → o ≡ None
none_from_ok None r u a b = refl
none_from_ok (Some x) r u a b = let z : ◌≡◌ {A = ℕ} 0 1 = cc in absurd (omega arith)

-- a sink with room does not refuse
pub never_err : {E : Type 0} (o : Option E) (r : Result (Unit {0}) E) (e : E) → o ≡ None → r ≡ Err e → r ≡ answer o → ⊥
never_err None r e n a b = let z : ◌≡◌ {A = ℕ} 0 1 = cc in omega arith
never_err (Some x) r e n a b = let z : ◌≡◌ {A = ℕ} 0 1 = cc in omega arith

-- How a sink grows, put by put.
use Rattle.std.proofs.Common.{◌≡◌, ℕ, ◌+◌, ◌<◌, ◌≤◌, List, [], ◌++◌, Some, None, Option, sym, refl, ap, ◌∙◌, arith}
use Rattle.std.proofs.lemmas.List.{append-nil, append_assoc}
use Rattle.sink.specs.Frames.{Frame}
use Rattle.sink.proofs.Room.{room_from, none_from}
use Rattle.sink.specs.Frames.{Model, fault_at, Grown, After}

pub grown_none : (a : Model) → Grown a a [] 0
grown_none a = record { waiting = sym (append-nil a.waiting); low = omega arith; high = omega arith; widest = refl; stopped = refl }

pub grown_more : {a b c : Model} (fs gs : List Frame) (n m : ℕ) → Grown a b fs n → Grown b c gs m → Grown a c (fs ++ gs) (n + m)
grown_more {a = a} {b = b} {c = c} fs gs n m g h =
    record {
      waiting = h.waiting ∙ ap (λ w. w ++ gs) g.waiting ∙ append_assoc a.waiting fs gs;
      low = omega (arith, g.low, h.low);
      high = omega (arith, g.high, h.high);
      widest = h.widest ∙ g.widest;
      stopped = h.stopped ∙ g.stopped;
    }

-- where there is room for n frames, and fewer were put, the next is taken
pub next_taken : {a b : Model} (fs : List Frame) (width n i w : ℕ) → fault_at a width n ≡ None → Grown a b fs i → i < n → w ≤ width → fault_at b w 1 ≡ None
next_taken {a = a} {b = b} fs width n i w e g l f =
    let m = room_from a.stopped a.widest a.vacancy width n e in
    none_from b.stopped b.widest b.vacancy w 1
    (record { runs = g.stopped ∙ m.runs; narrow = omega (arith, m.narrow, g.widest); places = omega (arith, m.places, g.low) })

pub grown_from : {E : Type 0} (o : Option E) {a b : Model} {fs : List Frame} {n : ℕ} → o ≡ None → After o a b fs n → Grown a b fs n
grown_from None e h = h
grown_from (Some x) e h = let z : ◌≡◌ {A = ℕ} 0 1 = cc in absurd (omega arith)

pub after_none : {E : Type 0} (o : Option E) {a b : Model} {fs : List Frame} {n : ℕ} → o ≡ None → Grown a b fs n → After o a b fs n
after_none None e h = h
after_none (Some x) e h = let z : ◌≡◌ {A = ℕ} 0 1 = cc in absurd (omega arith)

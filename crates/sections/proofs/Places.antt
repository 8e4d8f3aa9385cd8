-- A place whose section is known.
use Rattle.std.proofs.Common.{◌≡◌, ℕ, ◌+◌, ◌-◌, ◌<◌, ◌≤◌, true, List, length, take, sym, ◌∙◌, arith}
use Rattle.std.proofs.lemmas.List.{get_or-take, length-take-le}
use Rattle.std.proofs.lemmas.Bool.{both_ways}
use Rattle.amqp.specs.declared.state.Received.{Received}
use Rattle.sections.specs.Sections.{begins_at, begun_before, IsAt, NoneBegins}
use Rattle.sections.proofs.Counting.{one_start}

-- what is left of a message after a position tells nothing of what begins there
begins_front : (msg : List ℕ) (n k : ℕ) → k + 3 ≤ n → begins_at (take n msg) k ≡ begins_at msg k
begins_front msg n k l = rw (get_or-take n msg k 0 (omega arith), get_or-take n msg (k + 1) 0 (omega arith), get_or-take n msg (k + 2) 0 (omega arith))

-- the section of a place's number
pub record Numbered (msg : List ℕ) (place : Received) (start : ℕ) : Type 0 where
  pub inside : start + 3 ≤ length msg
  pub begins : begins_at msg start ≡ true
  pub number : begun_before msg start ≡ place.section_number

lies_past : (msg : List ℕ) (place : Received) (start i : ℕ) → Numbered msg place start → IsAt msg place i → i ≡ start + place.section_offset
lies_past msg place start i s at =
    let e = one_start msg at.start start at.begins s.begins (at.number ∙ sym s.number) in
    omega (arith, e, at.offset)

pub too_far : (msg : List ℕ) (place : Received) (start : ℕ) → Numbered msg place start → length msg - 3 - start < place.section_offset → (i : ℕ) → IsAt msg place i → ⊥
too_far msg place start s far i at = omega (arith, s.inside, far, at.inside, lies_past msg place start i s at)

pub crossed : (msg : List ℕ) (place : Received) (start next : ℕ) → Numbered msg place start → place.section_offset ≤ length msg - 3 - start → start + 1 ≤ next → next + 3 ≤ length (take (start + place.section_offset + 3) msg) → begins_at (take (start + place.section_offset + 3) msg) next ≡ true → (i : ℕ) → IsAt msg place i → ⊥
crossed msg place start next s near after within begins i at =
    let n = start + place.section_offset + 3 in
    let size = length-take-le n msg (omega (arith, s.inside, near)) in
    let upto : next + 3 ≤ n = omega (arith, within, size) in
    let e = one_start msg at.start start at.begins s.begins (at.number ∙ sym s.number) in
    both_ways _ (at.no_later next (omega (arith, e, after)) (omega (arith, upto, e, at.offset))) (sym (begins_front msg n next upto) ∙ begins)

pub uncrossed : (msg : List ℕ) (place : Received) (start : ℕ) → Numbered msg place start → place.section_offset ≤ length msg - 3 - start → NoneBegins (take (start + place.section_offset + 3) msg) (start + 1) (length (take (start + place.section_offset + 3) msg)) → IsAt msg place (start + place.section_offset)
uncrossed msg place start s near none =
    let n = start + place.section_offset + 3 in
    let size = length-take-le n msg (omega (arith, s.inside, near)) in
    record {
      inside = omega (arith, s.inside, near);
      start = start;
      offset = omega arith;
      begins = s.begins;
      number = s.number;
      no_later = λ k a b. sym (begins_front msg n k (omega (arith, b))) ∙ none k (omega (arith, a)) (omega (arith, b, size));
    }

-- A state is read by the parts of its text.
use Rattle.std.proofs.Common.{◌≡◌, ℕ, ◌^◌, ◌<◌, ◌≤◌, List, ◌++◌, Option, None, Some, refl, sym, ◌∙◌, codes, decimal, append_assoc, arith, ap}
use Rattle.std.proofs.lemmas.Option.{some_pair_parts}
use Rattle.amqp.specs.declared.state.DeliveryState.{DeliveryState}
use Rattle.amqp.specs.declared.state.DeliveryState.TheVariants.{Received, Accepted, Rejected, Released, Modified}
use Rattle.amqp.specs.declared.state.Received.{Received as Place}
use Rattle.amqp.specs.Texts.{state_text, flag_text}
use Rattle.scenario_text.specs.Reading.{Reads, Any, closed, in_two, Lacks}
use Rattle.scenario_text.specs.Values.{IsPlace, IsState, place_text, rejected_text, modified_text}
use Rattle.scenario_text.proofs.Numbers.{narrowed}
use Rattle.scenario_text.proofs.Parts.{undivided, first_unread, second_unread, both_read, decimal_lacks}
use Rattle.scenario_text.proofs.Reading.{none_read, unread}

abbrev Small : ℕ → Type 0
Small n = n < 2 ^ 32

abbrev Wide : ℕ → Type 0
Wide n = n < 2 ^ 64

abbrev head : List ℕ
head = codes "received("

abbrev Pairs : List ℕ → Option (ℕ × ℕ) → Type 0
Pairs text r = Reads (λ p. closed head (in_two (decimal p.0) (decimal p.1))) (λ p. Small p.0 × Wide p.1) text r

no_place : (text : List ℕ) → Pairs text None → Reads place_text IsPlace text None
no_place text h =
    none_read place_text IsPlace text (λ p fits e. let f = h.back (p.section_number, p.section_offset) fits e in cc)

small_lacks : (n : ℕ) → Small n → Lacks 44 (decimal n)
small_lacks n small = decimal_lacks n (omega arith)

pub undivided_place : (text inside : List ℕ) → text ≡ closed head inside → ((a b : List ℕ) → Lacks 44 a → inside ≡ in_two a b → ⊥) → Reads place_text IsPlace text None
undivided_place text inside t never = no_place text (undivided decimal Small decimal Wide head small_lacks text inside t never)

pub no_section : (text inside a b : List ℕ) → text ≡ closed head inside → Lacks 44 a → inside ≡ in_two a b → Reads decimal Small a None → Reads place_text IsPlace text None
no_section text inside a b t la i h = no_place text (first_unread decimal Small decimal Wide head small_lacks text inside a b t la i h)

wide : (b : List ℕ) (r : Option ℕ) → Reads decimal (λ n. n ≤ 18446744073709551615) b r → Reads decimal Wide b r
wide b r h = narrowed 18446744073709551615 18446744073709551616 b r refl h

pub no_offset : (text inside a b : List ℕ) → text ≡ closed head inside → Lacks 44 a → inside ≡ in_two a b → Reads decimal (λ n. n ≤ 18446744073709551615) b None → Reads place_text IsPlace text None
no_offset text inside a b t la i h = no_place text (second_unread decimal Small decimal Wide head small_lacks text inside a b t la i (wide b None h))

place_back : (x y : ℕ) (p : Place) → ◌≡◌ {A = Option (ℕ × ℕ)} (Some (x, y)) (Some (p.section_number, p.section_offset)) → ◌≡◌ {A = Option Place} (Some (record { section_number = x; section_offset = y })) (Some p)
place_back x y p e =
    let parts = some_pair_parts x p.section_number y p.section_offset e in
    let f = parts.0 in
    let g = parts.1 in
    let z : ◌≡◌ {A = Option Place} (Some (record { section_number = x; section_offset = y })) (Some (record { section_number = p.section_number; section_offset = p.section_offset })) = cc in z

pub place_read : (text inside a b : List ℕ) (x y : ℕ) → text ≡ closed head inside → Lacks 44 a → inside ≡ in_two a b → Reads decimal Small a (Some x) → Reads decimal (λ n. n ≤ 18446744073709551615) b (Some y) → Reads place_text IsPlace text (Some (record { section_number = x; section_offset = y }))
place_read text inside a b x y t la i h k =
    let r : Pairs text (Some (x, y)) = both_read decimal Small decimal Wide head small_lacks text inside a b x y t la i h (wide b (Some y) k) in
    record { printed = r.printed; back = λ p fits e. place_back x y p (r.back (p.section_number, p.section_offset) fits e) }

-- a text with a bracket is told by what is inside
closed_pair : (h a b : List ℕ) → closed h (in_two a b) ≡ h ++ (a ++ (codes "," ++ (b ++ codes ")")))
closed_pair h a b = ap (λ s. h ++ s) (append_assoc a (codes "," ++ b) (codes ")"))

state_unread_at : (text : List ℕ) (s : DeliveryState) → (text ≡ codes "accepted" → ⊥) → (text ≡ codes "released" → ⊥) → Reads place_text IsPlace text None → Reads rejected_text Any text None → Reads modified_text Any text None → IsState s → text ≡ state_text s → ⊥
state_unread_at text (Received p) na nr hp hr hm fits e =
    unread place_text IsPlace text None refl hp p fits (e ∙ sym (closed_pair (codes "received(") (decimal p.section_number) (decimal p.section_offset)))
state_unread_at text Accepted na nr hp hr hm fits e = na e
state_unread_at text (Rejected c) na nr hp hr hm fits e = unread rejected_text Any text None refl hr c tt e
state_unread_at text Released na nr hp hr hm fits e = nr e
state_unread_at text (Modified f u) na nr hp hr hm fits e =
    unread modified_text Any text None refl hm (f, u) tt (e ∙ sym (closed_pair (codes "modified(") (flag_text f) (flag_text u)))

pub state_unread : (text : List ℕ) → (text ≡ codes "accepted" → ⊥) → (text ≡ codes "released" → ⊥) → Reads place_text IsPlace text None → Reads rejected_text Any text None → Reads modified_text Any text None → Reads state_text IsState text None
state_unread text na nr hp hr hm =
    none_read state_text IsState text (λ s fits e. state_unread_at text s na nr hp hr hm fits e)

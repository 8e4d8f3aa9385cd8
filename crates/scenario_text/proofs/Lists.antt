-- A peer's list, and the parts of its text.
use Rattle.std.proofs.Common.{◌≡◌, ℕ, List, [], ◌∷◌, ◌++◌, length, map, Bor, sym, ◌∙◌, ap, codes, arith, eqb, subst, Ok, Option, None, Some, MatchOption}
use Rattle.std.specs.List.{slice_split, join_with_byte}
use Rattle.std.proofs.lemmas.List.{map-append}
use Rattle.std.proofs.lemmas.List.Splits.{join_with_byte-slice_split, length-slice_split}
use Rattle.std.proofs.lemmas.Option.{some_pair_parts}
use Rattle.amqp.specs.declared.state.DeliveryState.{DeliveryState}
use Rattle.amqp.specs.Texts.{state_text}
use Rattle.headers_text.specs.Shows.{or_none}
use Rattle.scenario_text.specs.Reading.{Reads, Lacks}
use Rattle.scenario_text.specs.Values.{IsState, IfThere, bytes_text}
use Rattle.scenario_text.specs.Words.{keyed}
use Rattle.scenario_text.specs.Commands.{Pair, pair_text, list_text}
use Rattle.scenario_text.specs.Peers.{Adds, ReadsList}

-- the pairs so far are those of the parts so far
pub added_more : (parts : List (Bor (List ℕ))) (part : Bor (List ℕ)) (old new : List Pair) → map pair_text old ≡ map (λ x. x.now) parts → Adds part.now old new → map pair_text new ≡ map (λ x. x.now) (parts ++ part ∷ [])
added_more parts part old new so a =
    let e = map-append pair_text old (a.pair ∷ []) in
    let f = map-append (λ (x : Bor (List ℕ)). x.now) parts (part ∷ []) in
    let w = a.written in
    let n = a.after in
    cc

pub added_all : (text : List ℕ) (list : List Pair) → map pair_text list ≡ slice_split (λ b. eqb b 59) text → text ≡ list_text list
unfolding list_text
added_all text [] e = let l = ap length e in absurd (omega (arith, length-slice_split (λ b. eqb b 59) text))
added_all text (p ∷ ps) e = sym (ap (join_with_byte 59) e ∙ join_with_byte-slice_split 59 text)

pub none_read : (text : List ℕ) (list : List Pair) → text ≡ codes "none" → list ≡ [] → ReadsList text list (Ok tt)
unfolding list_text
none_read text list e none = record { printed = subst (λ l. text ≡ list_text l) (sym none) e; empty = tt }

pub pair_read : (part : List ℕ) (halves : Option (Bor (List ℕ) × Bor (List ℕ))) (tag state : Bor (List ℕ)) (bytes : List ℕ) (r : Option (Option DeliveryState)) (s : Option DeliveryState) → MatchOption halves ((a b : List ℕ) → Lacks 61 a → part ≡ keyed a b → ⊥) (λ x. Lacks 61 x.0.now × (part ≡ keyed x.0.now x.1.now)) → halves ≡ Some (tag, state) → tag.now ≡ bytes_text bytes → Reads (or_none state_text) (IfThere IsState) state.now r → r ≡ Some s → part ≡ pair_text (bytes, s)
unfolding keyed
pair_read part None tag state bytes r s m h t k e = cc
pair_read part (Some x) tag state bytes None s m h t k e = cc
pair_read part (Some x) tag state bytes (Some y) s m h t k e =
    let parts = some_pair_parts x.0 tag x.1 state h in
    let a = parts.0 in
    let b = parts.1 in
    let p = m.1 in
    let q = k.printed.1 in
    let f : y ≡ s = cc in
    p ∙ ap (λ w. w ++ (61 ∷ x.1.now)) (ap (λ w. w.now) a ∙ t) ∙ ap (λ w. bytes_text bytes ++ (61 ∷ w)) (ap (λ w. w.now) b ∙ q ∙ ap (or_none state_text) f)

-- Two texts around a comma.
use Rattle.std.proofs.Common.{◌≡◌, ℕ, zero, suc, ◌<◌, List, [], ◌∷◌, ◌++◌, length, get_or, Option, None, Some, MatchOption, Bor, refl, sym, ◌∙◌, ap, arith, rules, decimal, ◌^◌, Bool, true, false}
use Rattle.std.proofs.lemmas.Str.Pattern.{IsSplitOnceResult, split_parts, split_after}
use Rattle.std.specs.Str.Parse.{AllDigits}
use Rattle.std.proofs.lemmas.Str.Parse.{digit_at}
use Rattle.std.proofs.lemmas.List.{append_cancel_left, append_cancel_right}
use Rattle.amqp.specs.Texts.{flag_text}
use Rattle.scenario_text.specs.Reading.{Reads, closed, in_two, Lacks}
use Rattle.scenario_text.proofs.Numbers.{decimal_digits}
use Rattle.scenario_text.proofs.Reading.{none_read}

lacks_at : (c : ℕ) (a : List ℕ) (i : ℕ) → Lacks c a → i < length a → get_or a i 0 ≡ c → ⊥
lacks_at c [] i h lt e = absurd (omega arith)
lacks_at c (b ∷ bs) zero h lt e = h.0 e
lacks_at c (b ∷ bs) (suc i) h lt e = lacks_at c bs i h.1 (omega arith) e

pub lacks_each : (c : ℕ) (a : List ℕ) → ((i : ℕ) → i < length a → get_or a i 0 ≡ c → ⊥) → Lacks c a
lacks_each c [] h = tt
lacks_each c (b ∷ bs) h = (h 0 (omega arith), lacks_each c bs (λ i lt e. h (suc i) (omega arith) e))

-- what `split_once` says at an ASCII character
pub parts_of : (c : ℕ) (text : List ℕ) (r : Option (Bor (List ℕ) × Bor (List ℕ))) → c < 128 → IsSplitOnceResult c text r → MatchOption r ((a b : List ℕ) → Lacks c a → text ≡ a ++ (c ∷ b) → ⊥) (λ x. Lacks c x.0.now × (text ≡ x.0.now ++ (c ∷ x.1.now)))
parts_of c text None ascii h = λ a b lacks e. split_after c text a b None h ascii e (λ i lt f. lacks_at c a i lacks lt f)
parts_of c text (Some x) ascii h = let p = split_parts c text (Some x) h ascii in (lacks_each c x.0.now p.1, p.0)

-- they are the only two
pub same_parts : (a b x y : List ℕ) → Lacks 44 a → Lacks 44 x → in_two a b ≡ in_two x y → (a ≡ x) × (b ≡ y)
same_parts [] b [] y la lx e = (refl, cc)
same_parts [] b (c ∷ x) y la lx e = absurd (lx.0 (cc))
same_parts (c ∷ a) b [] y la lx e = absurd (la.0 (cc))
same_parts (c ∷ a) b (d ∷ x) y la lx e =
    let ih = same_parts a b x y la.1 lx.1 (cc) in
    let p = ih.0 in
    let q = ih.1 in
    (cc, q)

decimal_lacks_each : (ds : List ℕ) → AllDigits 10 ds → (i : ℕ) → i < length ds → get_or ds i 0 ≡ 44 → ⊥
decimal_lacks_each ds all i lt e = omega (arith, digit_at ds i all lt)

pub decimal_lacks : (n : ℕ) → n < 2 ^ 64 → Lacks 44 (decimal n)
decimal_lacks n small = lacks_each 44 (decimal n) (decimal_lacks_each (decimal n) (decimal_digits n small))

pub flag_lacks : (b : Option Bool) → Lacks 44 (flag_text b)
flag_lacks None = search rules
flag_lacks (Some true) = search rules
flag_lacks (Some false) = search rules

closed_same : (head x y : List ℕ) → closed head x ≡ closed head y → x ≡ y
closed_same head x y e =
    let f = append_cancel_left head (x ++ (41 ∷ [])) (y ++ (41 ∷ [])) e in append_cancel_right x y (41 ∷ []) f

module _ {A B : Type 0} (ta : A → List ℕ) (Fa : A → Type 0) (tb : B → List ℕ) (Fb : B → Type 0) (head : List ℕ) (lacks : (x : A) → Fa x → Lacks 44 (ta x)) where
  abbrev pub two_text : A × B → List ℕ
  two_text p = closed head (in_two (ta p.0) (tb p.1))

  abbrev pub BothFit : A × B → Type 0
  BothFit p = Fa p.0 × Fb p.1

  pub undivided : (text inside : List ℕ) → text ≡ closed head inside → ((a b : List ℕ) → Lacks 44 a → inside ≡ in_two a b → ⊥) → Reads two_text BothFit text None
  undivided text inside t never =
      none_read two_text BothFit text (λ p fits e. never (ta p.0) (tb p.1) (lacks p.0 fits.0) (closed_same head inside (in_two (ta p.0) (tb p.1)) (sym t ∙ e)))

  both_parts : (text inside a b : List ℕ) (p : A × B) → text ≡ closed head inside → Lacks 44 a → inside ≡ in_two a b → BothFit p → text ≡ two_text p → (a ≡ ta p.0) × (b ≡ tb p.1)
  both_parts text inside a b p t la i fits e =
      same_parts a b (ta p.0) (tb p.1) la (lacks p.0 fits.0) (sym i ∙ closed_same head inside (in_two (ta p.0) (tb p.1)) (sym t ∙ e))

  pub first_unread : (text inside a b : List ℕ) → text ≡ closed head inside → Lacks 44 a → inside ≡ in_two a b → Reads ta Fa a None → Reads two_text BothFit text None
  first_unread text inside a b t la i h =
      none_read two_text BothFit text (λ p fits e. let q = h.back p.0 fits.0 (both_parts text inside a b p t la i fits e).0 in cc)

  pub second_unread : (text inside a b : List ℕ) → text ≡ closed head inside → Lacks 44 a → inside ≡ in_two a b → Reads tb Fb b None → Reads two_text BothFit text None
  second_unread text inside a b t la i h =
      none_read two_text BothFit text (λ p fits e. let q = h.back p.1 fits.1 (both_parts text inside a b p t la i fits e).1 in cc)

  pub both_read : (text inside a b : List ℕ) (x : A) (y : B) → text ≡ closed head inside → Lacks 44 a → inside ≡ in_two a b → Reads ta Fa a (Some x) → Reads tb Fb b (Some y) → Reads two_text BothFit text (Some (x, y))
  both_read text inside a b x y t la i h k =
      let ha = h.printed in
      let hb = k.printed in
      record {
        printed = ((ha.0, hb.0), t ∙ ap (closed head) (i ∙ ap (λ s. in_two s b) ha.1 ∙ ap (in_two (ta x)) hb.1));
        back = λ p fits e. let q = both_parts text inside a b p t la i fits e in let f = h.back p.0 fits.0 q.0 in let g = k.back p.1 fits.1 q.1 in let z : ◌≡◌ {A = Option (A × B)} (Some (x, y)) (Some (p.0, p.1)) = cc in z;
      }

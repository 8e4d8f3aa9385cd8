-- What is read of a word is taken with it.
use Rattle.std.proofs.Common.{◌≡◌, ℕ, List, [], ◌∷◌, ◌++◌, Option, None, Some, Result, Ok, Err, sym, ◌∙◌, ap, subst}
use Rattle.std.specs.Option.{ok_or}
use Rattle.std.specs.Result.{IsErr}
use Rattle.std.proofs.lemmas.List.{append_cancel_left}
use Rattle.scenario_text.specs.declared.fault.Fault.{Fault}
use Rattle.scenario_text.specs.declared.fault.Fault.TheVariants.{OutOfMemory}
use Rattle.scenario_text.specs.Reading.{Reads}
use Rattle.scenario_text.specs.Words.{keyed, field, Takes, TakesOrNoMemory}

-- a word is taken where its value is read, and values have one word each
takes_one : {A : Type 0} (word : List ℕ → List ℕ) (text : A → List ℕ) (Fits : A → Type 0) (v : List ℕ) (old new : List (List ℕ)) (r : Option A) (f : Fault) (q : Result A Fault) → ((x y : List ℕ) → word x ≡ word y → x ≡ y) → q ≡ ok_or r f → Reads text Fits v r → old ≡ word v ∷ new → Takes (λ x. word (text x) ∷ []) Fits old new q
takes_one word text Fits v old new None f (Ok x) one e h o = cc
takes_one word text Fits v old new None f (Err g) one e h o =
    record { taken = tt; refused = λ x rest fits p. let w : word v ≡ word (text x) = cc in let back = h.back x fits (one v (text x) w) in cc }
takes_one word text Fits v old new (Some y) f (Ok x) one e h o =
    let same : y ≡ x = cc in
    record {
      taken = subst (λ z. Fits z × (old ≡ word (text z) ∷ new)) same (h.printed.0, o ∙ ap (λ w. word w ∷ new) h.printed.1);
      refused = tt;
    }
takes_one word text Fits v old new (Some y) f (Err g) one e h o = cc

pub same_value : (key v w : List ℕ) → keyed key v ≡ keyed key w → v ≡ w
unfolding keyed
same_value key v w e = let f : 61 ∷ v ≡ 61 ∷ w = append_cancel_left key (61 ∷ v) (61 ∷ w) e in cc

pub takes_read : {A : Type 0} (text : A → List ℕ) (Fits : A → Type 0) (key v : List ℕ) (old new : List (List ℕ)) (r : Option A) (f : Fault) (q : Result A Fault) → q ≡ ok_or r f → Reads text Fits v r → old ≡ keyed key v ∷ new → Takes (field key text) Fits old new q
takes_read text Fits key v old new r f q e h o = takes_one (keyed key) text Fits v old new r f q (same_value key) e h o

pub takes_bare : {A : Type 0} (text : A → List ℕ) (Fits : A → Type 0) (v : List ℕ) (old new : List (List ℕ)) (r : Option A) (f : Fault) (q : Result A Fault) → q ≡ ok_or r f → Reads text Fits v r → old ≡ v ∷ new → Takes (λ x. text x ∷ []) Fits old new q
takes_bare text Fits v old new r f q e h o = takes_one (λ w. w) text Fits v old new r f q (λ x y w. w) e h o

pub refuses : {A : Type 0} (text : A → List (List ℕ)) (Fits : A → Type 0) (old new : List (List ℕ)) (r : Result A Fault) → IsErr r → ((x : A) (rest : List (List ℕ)) → Fits x → old ≡ text x ++ rest → ⊥) → Takes text Fits old new r
refuses text Fits old new (Ok x) err h = cc
refuses text Fits old new (Err f) err h = record { taken = tt; refused = h }

-- behind a word
pub behind : {a b : List ℕ} {old mid rest : List (List ℕ)} → old ≡ a ∷ mid → old ≡ b ∷ rest → mid ≡ rest
behind p q = let r = sym p ∙ q in cc

pub behind_four : {a b c d f g h i : List ℕ} {old mid rest : List (List ℕ)} → old ≡ a ∷ b ∷ c ∷ d ∷ mid → old ≡ f ∷ g ∷ h ∷ i ∷ rest → mid ≡ rest
behind_four p q = let r = sym p ∙ q in cc

pub refuses_too : {A : Type 0} (text : A → List (List ℕ)) (Fits : A → Type 0) (old new : List (List ℕ)) (r : Result A Fault) → IsErr r → ((x : A) (rest : List (List ℕ)) → Fits x → old ≡ text x ++ rest → ⊥) → TakesOrNoMemory text Fits old new r
refuses_too text Fits old new (Ok x) err h = cc
refuses_too text Fits old new (Err f) err h = record { taken = tt; refused = λ there x rest fits e. h x rest fits e }

pub refuses_with_memory : {A : Type 0} (text : A → List (List ℕ)) (Fits : A → Type 0) (old new : List (List ℕ)) (r : Result A Fault) (f g : Fault) → r ≡ Err f → f ≡ g → ((g ≡ OutOfMemory → ⊥) → (x : A) (rest : List (List ℕ)) → Fits x → old ≡ text x ++ rest → ⊥) → TakesOrNoMemory text Fits old new r
refuses_with_memory text Fits old new (Ok x) f g is same h = cc
refuses_with_memory text Fits old new (Err k) f g is same h =
    let e : k ≡ g = cc in
    record { taken = tt; refused = λ there x rest fits q. h (λ m. there (e ∙ m)) x rest fits q }

-- What is read, and what is not.
use Rattle.std.proofs.Common.{◌≡◌, ℕ, List, Option, None}
use Rattle.scenario_text.specs.Reading.{Reads}

pub none_read : {A : Type 0} (text : A → List ℕ) (Fits : A → Type 0) (bs : List ℕ) → ((x : A) → Fits x → bs ≡ text x → ⊥) → Reads text Fits bs None
none_read text Fits bs never = record { printed = tt; back = λ x f e. absurd (never x f e) }

pub unread : {A : Type 0} (text : A → List ℕ) (Fits : A → Type 0) (bs : List ℕ) (r : Option A) → r ≡ None → Reads text Fits bs r → (x : A) → Fits x → bs ≡ text x → ⊥
unread text Fits bs r none h x f e = let s = h.back x f e in cc

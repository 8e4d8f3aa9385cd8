-- What it means that a text is read.
use Rattle.std.specs.Prelude.{◌≡◌, ℕ, List, [], ◌∷◌, ◌++◌, Option, Some, IfSome, codes}

-- r is what a text is read as, where `text` says what is printed of a value, and `Fits` which values there are: what is read was printed so, and what is printed is read back
pub record Reads {A : Type 0} (text : A → List ℕ) (Fits : A → Type 0) (bs : List ℕ) (r : Option A) : Type 0 where
  pub printed : IfSome r (λ x. Fits x × (bs ≡ text x))
  pub back : (x : A) → Fits x → bs ≡ text x → r ≡ Some x

-- every value
abbrev pub Any : {A : Type 0} → A → Type 0
Any x = Unit {0}

-- a head, what stands in it, and a closing bracket
abbrev pub closed : List ℕ → List ℕ → List ℕ
closed head inside = head ++ (inside ++ codes ")")

-- two texts around a comma
abbrev pub in_two : List ℕ → List ℕ → List ℕ
in_two a b = a ++ (codes "," ++ b)

-- no byte is this one
abbrev pub Lacks : ℕ → List ℕ → Type 0
Lacks c [] = Unit {0}
Lacks c (b ∷ bs) = (b ≡ c → ⊥) × Lacks c bs

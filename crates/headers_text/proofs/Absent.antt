-- What is printed of a field that may be absent is known.
use Rattle.std.proofs.Common.{◌≡◌, ℕ, List, Option, None, Some, refl, codes}
use Rattle.amqp.specs.Texts.{or_word}
use Rattle.headers_text.specs.Shows.{or_none}

pub or_none_is : {A : Type 0} (text : A → List ℕ) (x : Option A) → or_word (codes "none") (λ y. Some (text y)) x ≡ Some (or_none text x)
or_none_is text None = refl
or_none_is text (Some x) = refl

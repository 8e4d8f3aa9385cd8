-- What is printed of a ticket's progress is known.
use Rattle.std.proofs.Common.{◌≡◌, Option, None, Some, refl, codes}
use Rattle.amqp.specs.Texts.{or_word}
use Rattle.link.specs.declared.delivery.Outcome.{Outcome}
use Rattle.link.specs.Texts.{outcome_text}
use Rattle.shipping.specs.Texts.{told_text}

pub told_is : (x : Option Outcome) → or_word (codes "pending") (λ o. Some (outcome_text o)) x ≡ Some (told_text x)
told_is None = refl
told_is (Some o) = refl

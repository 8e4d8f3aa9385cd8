-- What is printed of the delivery that is not finished is known.
use Rattle.std.proofs.Common.{◌≡◌, Option, None, Some, refl, codes}
use Rattle.amqp.specs.Texts.{or_word}
use Rattle.voyage.specs.declared.report.Unfinished.{Unfinished}
use Rattle.voyage.specs.Reports.{unfinished_text, told_text}

pub told_is : (x : Option Unfinished) → or_word (codes "none unfinished") (λ u. Some (unfinished_text u)) x ≡ Some (told_text x)
told_is None = refl
told_is (Some u) = refl

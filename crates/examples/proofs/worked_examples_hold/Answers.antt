use Rattle.std.proofs.Common.{refl}
use Rattle.amqp.specs.Tags.{tag_from, tag_of}
use Rattle.unsettled.specs.Tables.{same_tag}
use Rattle.examples.proofs.worked_examples_hold.Goals as goal

pub returns : goal.returns
unfolding tag_from tag_of same_tag
returns c =
    record {
      measures = refl;
      credits = (refl, (refl, (refl, tt)));
      splits = (refl, (refl, (refl, (refl, (refl, (refl, (refl, tt)))))));
      starts = (refl, (refl, (refl, tt)));
      decisions = (refl, (refl, (refl, (refl, (refl, (refl, (refl, tt)))))));
      leftovers = refl;
    }

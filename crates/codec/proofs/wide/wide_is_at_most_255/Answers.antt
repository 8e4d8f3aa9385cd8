use Rattle.codec.specs.Wide.{wide_form}
use Rattle.codec.specs.Forms.{wide_lawful}
use Rattle.codec.proofs.Short.{short}
use Rattle.codec.proofs.wide.wide_is_at_most_255.Goals as goal

pub returns : goal.returns
returns c = short wide_form wide_lawful.bounds

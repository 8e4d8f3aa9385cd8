use Rattle.codec.specs.Compact.{compact_form}
use Rattle.codec.specs.Forms.{compact_lawful}
use Rattle.codec.proofs.Short.{short}
use Rattle.codec.proofs.compact.compact_is_at_most_255.Goals as goal

pub returns : goal.returns
returns c = short compact_form compact_lawful.bounds

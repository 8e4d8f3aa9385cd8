use Rattle.std.proofs.Common.{arith, lit<, rules}
use Rattle.codec.proofs.Closing.{closes}
use Rattle.codec.proofs.state.modified.Goals as goal

pub returns : goal.returns
returns g c = closes _ c.close.ensures.made (cc) (omega arith) (lit< tt) (search rules)

use Rattle.std.proofs.Common.{arith, lit<, rules}
use Rattle.codec.proofs.Closing.{closes}
use Rattle.codec.proofs.header.transfer.Goals as goal

pub returns : goal.returns
returns g c = closes _ c.close.ensures.made (cc) (grind arith) (lit< tt) (search rules)

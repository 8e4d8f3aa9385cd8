use Rattle.shipping.proofs.Telling.{told_is}
use Rattle.shipping.proofs.report.ShipmentDisplay.fmt.Goals as goal

pub returns-clause-writes : goal.returns-clause-writes
returns-clause-writes g c = rw (told_is c.args.self.now.progress) at c.write.ensures.writes

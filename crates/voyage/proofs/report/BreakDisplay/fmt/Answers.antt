use Rattle.voyage.proofs.Telling.{told_is}
use Rattle.voyage.proofs.report.BreakDisplay.fmt.Goals as goal

pub returns-clause-writes : goal.returns-clause-writes
returns-clause-writes g c = rw (told_is c.args.self.now.unfinished) at c.write.ensures.writes

use Rattle.std.proofs.Common.{rules}
use Rattle.link.specs.Calls.{Disposition}
use Rattle.runs.proofs.Runs.{safe_after}
use Rattle.sender.proofs.sender_link.SenderLink.disposition.Goals as goal

pub returns-clause-no_delivery_lost_or_ended_twice : goal.returns-clause-no_delivery_lost_or_ended_twice
returns-clause-no_delivery_lost_or_ended_twice c = safe_after c.args.self.now (Disposition c.args.tag.now c.args.settled c.args.state) _ (search rules)

use Rattle.std.proofs.Common.{rules}
use Rattle.link.specs.Calls.{Collect}
use Rattle.runs.proofs.Runs.{safe_after}
use Rattle.sender.proofs.sender_link.SenderLink.collect.Goals as goal

pub returns-clause-no_delivery_lost_or_ended_twice : goal.returns-clause-no_delivery_lost_or_ended_twice
returns-clause-no_delivery_lost_or_ended_twice c = safe_after c.args.self.now (Collect c.args.ticket.number) _ (search rules)

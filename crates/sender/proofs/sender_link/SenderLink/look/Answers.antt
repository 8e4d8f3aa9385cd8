use Rattle.std.proofs.Common.{rules}
use Rattle.link.specs.Calls.{Look}
use Rattle.runs.proofs.Runs.{safe_after}
use Rattle.sender.proofs.sender_link.SenderLink.look.Goals as goal

pub returns-clause-no_delivery_lost_or_ended_twice : goal.returns-clause-no_delivery_lost_or_ended_twice
returns-clause-no_delivery_lost_or_ended_twice c = safe_after c.args.self.now (Look c.args.ticket.now.number) _ (search rules)

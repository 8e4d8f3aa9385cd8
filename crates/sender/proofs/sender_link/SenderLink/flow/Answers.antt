use Rattle.std.proofs.Common.{rules}
use Rattle.link.specs.Calls.{Flow}
use Rattle.runs.proofs.Runs.{safe_after}
use Rattle.sender.proofs.sender_link.SenderLink.flow.Goals as goal

pub returns-clause-no_delivery_lost_or_ended_twice : goal.returns-clause-no_delivery_lost_or_ended_twice
returns-clause-no_delivery_lost_or_ended_twice c = safe_after c.args.self.now (Flow c.args.flow.now) _ (search rules)

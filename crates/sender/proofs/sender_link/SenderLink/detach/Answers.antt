use Rattle.std.proofs.Common.{rules}
use Rattle.link.specs.Calls.{Detach}
use Rattle.runs.proofs.Runs.{safe_after}
use Rattle.sender.proofs.sender_link.SenderLink.detach.Goals as goal

pub returns-in_err-state-clause-no_delivery_lost_or_ended_twice : goal.returns-in_err-state-clause-no_delivery_lost_or_ended_twice
returns-in_err-state-clause-no_delivery_lost_or_ended_twice c = safe_after c.args.self.now (Detach c.args.closed c.args.error) _ (search rules)

pub returns-in_err-let_go-clause-no_delivery_lost_or_ended_twice : goal.returns-in_err-let_go-clause-no_delivery_lost_or_ended_twice
returns-in_err-let_go-clause-no_delivery_lost_or_ended_twice c = safe_after c.args.self.now (Detach c.args.closed c.args.error) _ (search rules)

pub returns-clause-no_delivery_lost_or_ended_twice : goal.returns-clause-no_delivery_lost_or_ended_twice
returns-clause-no_delivery_lost_or_ended_twice c = safe_after c.args.self.now (Detach c.args.closed c.args.error) _ (search rules)

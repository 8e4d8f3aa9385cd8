use Rattle.std.proofs.Common.{rules}
use Rattle.link.specs.Calls.{Dispose}
use Rattle.runs.proofs.Runs.{safe_after}
use Rattle.sender.proofs.sender_link.SenderLink.dispose.Goals as goal

pub returns-then-sends_settled-clause-no_delivery_lost_or_ended_twice : goal.returns-then-sends_settled-clause-no_delivery_lost_or_ended_twice
returns-then-sends_settled-clause-no_delivery_lost_or_ended_twice g c = safe_after c.args.self.now (Dispose (g.S.Sink.model c.args.sink.now) c.args.disposal.now) _ (search rules)

pub returns-in_err-put-clause-no_delivery_lost_or_ended_twice : goal.returns-in_err-put-clause-no_delivery_lost_or_ended_twice
returns-in_err-put-clause-no_delivery_lost_or_ended_twice g c = safe_after c.args.self.now (Dispose (g.S.Sink.model c.args.sink.now) c.args.disposal.now) _ (search rules)

pub returns-clause-no_delivery_lost_or_ended_twice : goal.returns-clause-no_delivery_lost_or_ended_twice
returns-clause-no_delivery_lost_or_ended_twice g c = safe_after c.args.self.now (Dispose (g.S.Sink.model c.args.sink.now) c.args.disposal.now) _ (search rules)

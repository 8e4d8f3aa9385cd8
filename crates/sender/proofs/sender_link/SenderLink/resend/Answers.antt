use Rattle.std.proofs.Common.{rules}
use Rattle.link.specs.Calls.{Resend}
use Rattle.link.specs.Sending.{carrier}
use Rattle.runs.proofs.Runs.{safe_after}
use Rattle.sender.proofs.sender_link.SenderLink.resend.Goals as goal

pub returns-then-not-is_ready-clause-no_delivery_lost_or_ended_twice : goal.returns-then-not-is_ready-clause-no_delivery_lost_or_ended_twice
returns-then-not-is_ready-clause-no_delivery_lost_or_ended_twice g c =
    safe_after c.args.self.now (Resend (carrier (g.E.Encoder.bytes c.args.encoder.now) c.args.pool.now (g.S.Sink.model c.args.sink.now))) _ (search rules)

pub returns-then-not-is_empty-clause-no_delivery_lost_or_ended_twice : goal.returns-then-not-is_empty-clause-no_delivery_lost_or_ended_twice
returns-then-not-is_empty-clause-no_delivery_lost_or_ended_twice g c =
    safe_after c.args.self.now (Resend (carrier (g.E.Encoder.bytes c.args.encoder.now) c.args.pool.now (g.S.Sink.model c.args.sink.now))) _ (search rules)

pub returns-in-None-clause-no_delivery_lost_or_ended_twice : goal.returns-in-None-clause-no_delivery_lost_or_ended_twice
returns-in-None-clause-no_delivery_lost_or_ended_twice g c =
    safe_after c.args.self.now (Resend (carrier (g.E.Encoder.bytes c.args.encoder.now) c.args.pool.now (g.S.Sink.model c.args.sink.now))) _ (search rules)

pub returns-in-Some-clause-no_delivery_lost_or_ended_twice : goal.returns-in-Some-clause-no_delivery_lost_or_ended_twice
returns-in-Some-clause-no_delivery_lost_or_ended_twice g c =
    safe_after c.args.self.now (Resend (carrier (g.E.Encoder.bytes c.args.encoder.now) c.args.pool.now (g.S.Sink.model c.args.sink.now))) _ (search rules)

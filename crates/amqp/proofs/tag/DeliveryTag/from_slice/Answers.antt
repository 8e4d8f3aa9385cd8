use Rattle.std.proofs.Common.{Some, length, rules, refl, ap}
use Rattle.std.proofs.lemmas.Bool.{le-ltb}
use Rattle.amqp.proofs.Tags.{copied}
use Rattle.amqp.proofs.tag.DeliveryTag.from_slice.Goals as goal

pub returns : goal.returns
returns c = rw (le-ltb 32 (length c.args.s.now) c.if-s-gt32.false) (ap Some (copied _ c.args.s.now c.if-s-gt32.false refl (search rules)))

use Rattle.amqp.proofs.Tags.{stands}
use Rattle.amqp.proofs.tag.DeliveryTag.same_bytes_same_tag.Goals as goal

pub returns : goal.returns
returns c = stands

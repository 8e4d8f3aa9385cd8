-- Tags that are compared by their lengths and bytes.
use Rattle.std.proofs.Common.{◌≡◌, Decides}
use Rattle.amqp.proofs.Tags.{equal_decides}
use Rattle.amqp.specs.declared.tag.DeliveryTag.{DeliveryTag}
use Rattle.unsettled.specs.Tables.{same_tag}

-- the test decides whether two tags are one
pub same_tag_decides : (s t : DeliveryTag) → Decides (same_tag s t) (s ≡ t)
unfolding same_tag
same_tag_decides s t = equal_decides s t

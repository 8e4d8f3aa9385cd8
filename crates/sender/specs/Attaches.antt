-- What an attach does with the table, by the peer's map as a table.
use Rattle.std.specs.Prelude.{List, Option}
use Rattle.amqp.specs.declared.state.DeliveryState.{DeliveryState}
use Rattle.unsettled.specs.declared.slot.Slot.{Slot}
use Rattle.link.specs.declared.resumption.ResumingDelivery.{ResumingDelivery}
use Rattle.link.specs.Resuming.{judged_by, item_for, end_for}
use Rattle.link.specs.Turns.{End}
use Rattle.link.specs.Views.{Entry}

abbrev pub item_by : List (Slot (Option DeliveryState)) → Entry → List ResumingDelivery
item_by told e = item_for (judged_by told e) e

abbrev pub end_by : List (Slot (Option DeliveryState)) → Entry → List End
end_by told e = end_for (judged_by told e) e

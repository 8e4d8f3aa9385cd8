-- Values as words, each by a name of its own.
use Rattle.std.specs.Prelude.{ℕ, Bool, List, Option, decimal}
use Rattle.amqp.specs.declared.condition.AmqpError.{AmqpError}
use Rattle.amqp.specs.declared.mode.ReceiverSettleMode.{ReceiverSettleMode}
use Rattle.amqp.specs.declared.mode.SenderSettleMode.{SenderSettleMode}
use Rattle.amqp.specs.declared.state.DeliveryState.{DeliveryState}
use Rattle.amqp.specs.declared.stop.SessionStopReason.{SessionStopReason}
use Rattle.amqp.specs.declared.tag.DeliveryTag.{DeliveryTag}
use Rattle.amqp.specs.Texts.{truth, state_text}
use Rattle.headers_text.specs.Shows.{tag_text, or_none}
use Rattle.scenario_text.specs.Reasons.{session_text}
use Rattle.scenario_text.specs.Values.{condition_text, sender_text, receiver_text}

unfoldable pub truth_word : Bool → List ℕ
truth_word b = truth b

unfoldable pub truth_or_none : Option Bool → List ℕ
truth_or_none b = or_none truth b

unfoldable pub number_or_none : Option ℕ → List ℕ
number_or_none n = or_none decimal n

unfoldable pub condition_word : Option AmqpError → List ℕ
condition_word e = condition_text e

unfoldable pub sender_word : SenderSettleMode → List ℕ
sender_word m = sender_text m

unfoldable pub receiver_word : ReceiverSettleMode → List ℕ
receiver_word m = receiver_text m

unfoldable pub state_word : DeliveryState → List ℕ
state_word s = state_text s

unfoldable pub state_or_none : Option DeliveryState → List ℕ
state_or_none s = or_none state_text s

unfoldable pub tag_word : DeliveryTag → List ℕ
tag_word t = tag_text t

unfoldable pub reason_word : SessionStopReason → List ℕ
reason_word r = session_text r

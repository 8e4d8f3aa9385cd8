-- What is printed of values.
use Rattle.std.specs.Prelude.{ℕ, Bool, true, false, List, ◌++◌, Some, None, codes, decimal, Option}
use Rattle.amqp.specs.declared.condition.AmqpError.{AmqpError}
use Rattle.amqp.specs.declared.state.DeliveryState.{DeliveryState}
use Rattle.amqp.specs.declared.state.DeliveryState.TheVariants.{Received, Accepted, Rejected, Released, Modified}
use Rattle.amqp.specs.States.{condition_number}

abbrev pub truth : Bool → List ℕ
truth true = codes "yes"
truth false = codes "no"

-- what is printed of a value that may be absent: its text, if that is known, or a word
abbrev pub or_word : {A : Type 0} → List ℕ → (A → Option (List ℕ)) → Option A → Option (List ℕ)
or_word word text None = Some word
or_word word text (Some x) = text x

abbrev pub flag_text : Option Bool → List ℕ
flag_text None = codes "absent"
flag_text (Some x) = truth x

-- a condition's number, and 0 for none
abbrev pub condition_in : Option AmqpError → ℕ
condition_in None = 0
condition_in (Some e) = condition_number e

abbrev pub state_text : DeliveryState → List ℕ
state_text (Received p) = codes "received(" ++ (decimal p.section_number ++ (codes "," ++ (decimal p.section_offset ++ codes ")")))
state_text Accepted = codes "accepted"
state_text (Rejected e) = codes "rejected(" ++ (decimal (condition_in e) ++ codes ")")
state_text Released = codes "released"
state_text (Modified failed undeliverable) = codes "modified(" ++ (flag_text failed ++ (codes "," ++ (flag_text undeliverable ++ codes ")")))

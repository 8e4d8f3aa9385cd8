-- A step through the resend list.
use Rattle.std.specs.Prelude.{ℕ, Bool, true, false, List, [], ◌∷◌, drop, Some, None, Option, Result}
use Rattle.amqp.specs.declared.error.SendError.{SendError}
use Rattle.sink.specs.Frames.{Model}
use Rattle.unsettled.specs.declared.message.UnsettledMessage.{UnsettledMessage}
use Rattle.link.specs.declared.resumption.Progress.{Progress}
use Rattle.link.specs.declared.resumption.Task.{Task}
use Rattle.link.specs.Credit.{consumed}
use Rattle.link.specs.Outcomes.{outcome_of}
use Rattle.link.specs.Resending.{again, sent_again, again_rows, again_turn, again_frames, resend_refusal, resent, resent_frames}
use Rattle.link.specs.Rows.{first}
use Rattle.link.specs.Sending.{Carrier, message, goes_settled, transfer_of}
use Rattle.link.specs.Turns.{Turn, End, turned}
use Rattle.link.specs.Views.{View, Entry}
use Rattle.link.specs.Working.{progress}
use Rattle.sender.specs.Puts.{Puts}

-- a settled delivery leaves no entry
abbrev pub kept : (settled : Bool) → Entry → Option Entry
kept true e = None
kept false e = Some e

abbrev pub again_task : View → Entry → Task
again_task v e =
    record {
      transfer = transfer_of v (again e);
      payload = e.entry.place;
      joins = kept (goes_settled v (again e)) (sent_again v e);
      ends = None;
    }

abbrev pub ended_by : (settled : Bool) → UnsettledMessage → List End
ended_by true m = record { number = m.ticket; outcome = outcome_of m.state } ∷ []
ended_by false m = []

-- what follows once its frames are out
abbrev pub sent_on : (settled : Bool) → UnsettledMessage → View → Turn
sent_on settled m v =
    turned v (consumed v.flow) (record { table = v.held.table; resume = v.held.resume; resend = drop 1 v.held.resend }) [] (ended_by settled m) []

-- what the first carries: all of its message
abbrev pub again_payload : Carrier → List Entry → List ℕ
again_payload c [] = []
again_payload c (e ∷ es) = message c.pool e.entry.place

-- what is done with the first of these deliveries
abbrev pub AgainDone : List Entry → View → Carrier → Result Progress SendError → View → Model → Type 0
AgainDone es v c r w t =
    Puts (first (again_rows v c es)) (progress es) (again_turn v es) (again_frames v c es) (again_payload c es) v c r w t

-- a resend on link `v` answers `r` (`resend_answer`), and leaves the link `w`, which is `step v (Resend c)`, and the sink `t`
abbrev pub Resends : View → Carrier → Result Progress SendError → View → Model → Type 0
Resends v c r w t =
    Puts (resend_refusal v c) (progress v.held.resend) (resent v) (resent_frames v c) (again_payload c v.held.resend) v c r w t

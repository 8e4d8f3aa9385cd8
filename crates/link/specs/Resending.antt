-- Sending again, under the next tag, what the peer has no record of.
use Rattle.std.specs.Prelude.{Bool, true, false, cond, not, List, [], ◌∷◌, ◌++◌, length, None, Option, Result, ◌==◌}
use Rattle.amqp.specs.declared.error.LinkStateError.TheVariants.{IllegalState}
use Rattle.amqp.specs.declared.error.SendError.{SendError}
use Rattle.amqp.specs.declared.error.SendError.TheVariants as fault
use Rattle.sink.specs.Frames.{Frame}
use Rattle.unsettled.specs.Messages.{outside}
use Rattle.link.specs.declared.delivery.Sendable.{Sendable}
use Rattle.link.specs.declared.resumption.Progress.{Progress}
use Rattle.link.specs.Credit.{consumed}
use Rattle.link.specs.Outcomes.{outcome_of}
use Rattle.link.specs.Rows.{row, first, gated}
use Rattle.link.specs.Sending.{Carrier, payload, goes_settled, narrow, next_tag, none_left, ready, size_for, share_for, join_rows, sink_row, sent_frames}
use Rattle.link.specs.Turns.{Turn, stay, turned}
use Rattle.link.specs.Views.{View, Entry}
use Rattle.link.specs.Working.{progress}

-- its message in its format, and nothing asked
abbrev pub again : Entry → Sendable
again e = record { place = e.entry.place; message_format = e.entry.message_format; settled = None; state = None; batchable = false }

-- under the next tag, with no state, as the new tag has none
abbrev pub sent_again : View → Entry → Entry
sent_again v e =
    record {
      tag = next_tag v;
      entry = record { place = e.entry.place; state = None; message_format = e.entry.message_format; ticket = e.entry.ticket };
    }

-- 7, 10, 14, and of an unsettled delivery 11 and 13; then the sink's
abbrev pub again_rows : View → Carrier → List Entry → List (Option SendError)
again_rows v c [] = []
again_rows v c (e ∷ es) =
    row (outside e.entry.place (length c.pool)) fault.OutsidePool
    ∷ row (v.flow.link_credit == 0) fault.NoCredit
    ∷ row (narrow v.settings.max_frame_size (size_for v c (again e)) e.entry.place.len) fault.FrameTooSmall
    ∷ (cond (goes_settled v (again e)) [] (join_rows (next_tag v) v) ++ sink_row c.sink (share_for v c (again e)) (payload c (again e)) ∷ [])

-- before them 2, and 9 while work is left
abbrev pub resend_refusal : View → Carrier → Option SendError
resend_refusal v c =
    first
    (row (not (ready v)) (fault.LinkState IllegalState) ∷ row (not (none_left v.held.resume)) fault.ListsNotEmpty
    ∷ again_rows v c v.held.resend)

-- the first is off its list and in the table; a link that settles each delivery as it sends it ends it instead
abbrev pub again_as : (settled : Bool) → View → Entry → List Entry → Turn
again_as true v e es =
    turned v (consumed v.flow) (record { table = v.held.table; resume = v.held.resume; resend = es }) []
    (record { number = e.entry.ticket; outcome = outcome_of e.entry.state } ∷ []) []
again_as false v e es =
    turned v (consumed v.flow) (record { table = v.held.table ++ sent_again v e ∷ []; resume = v.held.resume; resend = es }) [] [] []

abbrev pub again_turn : View → List Entry → Turn
again_turn v [] = stay v
again_turn v (e ∷ es) = again_as (goes_settled v (again e)) v e es

abbrev pub resent : View → Turn
resent v = again_turn v v.held.resend

abbrev pub again_frames : View → Carrier → List Entry → List Frame
again_frames v c [] = []
again_frames v c (e ∷ es) = sent_frames v c (again e)

abbrev pub resent_frames : View → Carrier → List Frame
resent_frames v c = again_frames v c v.held.resend

abbrev pub resend_answer : View → Carrier → Result Progress SendError
resend_answer v c = gated (resend_refusal v c) (progress v.held.resend)

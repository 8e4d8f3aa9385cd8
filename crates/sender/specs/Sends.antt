-- A send of the link in its memory: what is planned, what the second half does by a plan, and all together.
use Rattle.std.specs.Prelude.{◌≡◌, ℕ, false, List, [], ◌∷◌, ◌++◌, None, Ok, Err, Result}
use Rattle.amqp.specs.declared.error.SendError.{SendError}
use Rattle.amqp.specs.declared.header.Header.{Header}
use Rattle.sink.specs.Cuts.{Carries}
use Rattle.sink.specs.Frames.{Model, After}
use Rattle.link.specs.declared.delivery.Sendable.{Sendable}
use Rattle.link.specs.Calls.{Send, step}
use Rattle.link.specs.Rows.{first, gated, unless, Accepted}
use Rattle.link.specs.Seats.{sit}
use Rattle.link.specs.Sending.{Carrier, carrier, Sent, ticket, settled, message, payload, goes_settled, transfer_of, share_for, first_sent, next_number, with_table, entry_rows, own_rows, sink_row, send_refusal, answer_as, send_answer, sent_as, cut, frames_needed, sent_frames}
use Rattle.link.specs.Turns.{landed}
use Rattle.link.specs.Views.{View}
use Rattle.sender.specs.declared.sender_link.send.Plan.{Plan}
use Rattle.sender.specs.declared.ticket.Settlement.{Settlement}
use Rattle.sender.specs.declared.ticket.Settlement.TheVariants as settlement

-- what a send answered, a ticket by its number
abbrev pub answered : Result Settlement SendError → Result Sent SendError
answered (Ok (settlement.Settled tag)) = Ok (settled tag)
answered (Ok (settlement.Unsettled t)) = Ok (ticket t.number)
answered (Err e) = Err e

-- a ticket in it is yet to be collected
abbrev pub Uncollected : Settlement → Type 0
Uncollected (settlement.Settled tag) = Unit {0}
Uncollected (settlement.Unsettled t) = t.spent ≡ false

-- whether an entry of the next tag can be added
abbrev pub addable : View → Result (Unit {0}) SendError
addable v = gated (first (entry_rows v)) tt

abbrev pub plan_of : View → Carrier → Sendable → Plan
plan_of v c m = record { transfer = transfer_of v m; share = share_for v c m; settled = goes_settled v m }

-- a sink that no plan looks at
abbrev pub blind : Model
blind = record { waiting = []; vacancy = 0; widest = 0; stopped = None }

-- the plan, or what the link itself refuses
abbrev pub planned : View → (Header → List ℕ) → (pool : List ℕ) → Sendable → Result Plan SendError
planned v bytes pool m = gated (first (own_rows v (carrier bytes pool blind) m)) (plan_of v (carrier bytes pool blind) m)

-- the delivery's entry and its seat are there
abbrev pub added : View → Sendable → View
added v m =
    record {
      state = v.state;
      output = v.output;
      input = v.input;
      settings = v.settings;
      flow = v.flow;
      held = with_table (v.held.table ++ first_sent v m ∷ []) v.held;
      rooms = v.rooms;
      seats = sit (next_number v) v.seats;
    }

-- by a plan, from link `v` and sink `s`: the frames are in the sink `t` and the link is `w`, or the sink refused
pub record HandedOver (v : View) (p : Plan) (m : Sendable) (pool : List ℕ) (s : Model) (r : Result Settlement SendError) (w : View) (t : Model) : Type 0 where
  pub answer : answered r ≡ gated (sink_row s p.share (message pool m.place)) (answer_as p.settled v)
  pub link : w ≡ unless (sink_row s p.share (message pool m.place)) v (landed v (sent_as p.settled v m))
  pub sink : After (sink_row s p.share (message pool m.place)) s t (cut v p.transfer p.share (message pool m.place)) (frames_needed p.share (message pool m.place))

-- a send of `m` from link `v` answers `r`, and leaves the link `w` and the sink `t`
pub record Sends (v : View) (c : Carrier) (m : Sendable) (r : Result Settlement SendError) (w : View) (t : Model) : Type 0 where
  pub answer : answered r ≡ send_answer v c m
  pub link : w ≡ step v (Send c m)
  -- an accepted send's frames join the end of those that wait, and a refused one puts none
  pub sink : After (send_refusal v c m) c.sink t (sent_frames v c m) (frames_needed (share_for v c m) (payload c m))
  -- joined, their payloads are the message; with any delivery id set later each fits the frame size
  pub carries : Accepted (send_refusal v c m) (Carries c.bytes v.settings.max_frame_size (payload c m) (sent_frames v c m))

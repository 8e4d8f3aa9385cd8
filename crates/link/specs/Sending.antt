-- Send: what it refuses, and what an accepted one does.
use Rattle.std.specs.Prelude.{ℕ, ◌+◌, ◌-◌, max, Bool, true, false, cond, not, ◌&&◌, ◌||◌, List, [], ◌∷◌, ◌++◌, length, take, drop, is_some, Some, None, Option, Result, ◌==◌, nat_le, nat_lt}
use Rattle.std.specs.List.{list_any}
use Rattle.std.specs.Option.{option_map, unwrap_or}
use Rattle.amqp.specs.declared.error.LinkStateError.TheVariants.{IllegalState}
use Rattle.amqp.specs.declared.error.SendError.{SendError}
use Rattle.amqp.specs.declared.error.SendError.TheVariants as fault
use Rattle.amqp.specs.declared.header.Header.{Header}
use Rattle.amqp.specs.declared.header.Transfer.{Transfer}
use Rattle.amqp.specs.declared.tag.DeliveryTag.{DeliveryTag}
use Rattle.amqp.specs.Headers.{measured}
use Rattle.amqp.specs.Refusals.{of_sink}
use Rattle.amqp.specs.Tags.{tag_of}
use Rattle.sink.specs.Cuts.{count_of, frames_of, split_fault}
use Rattle.sink.specs.Frames.{Frame, Model}
use Rattle.unsettled.specs.declared.message.Place.{Place}
use Rattle.unsettled.specs.Messages.{outside}
use Rattle.unsettled.specs.Tables.{look}
use Rattle.link.specs.declared.delivery.Sendable.{Sendable}
use Rattle.link.specs.Credit.{consumed}
use Rattle.link.specs.Rows.{row, first, gated}
use Rattle.link.specs.Seats.{is_free}
use Rattle.link.specs.Settings.{settles, exceeds}
use Rattle.link.specs.States.{is_attached}
use Rattle.link.specs.Views.{View, Held, Entry}
use Rattle.link.specs.Turns.{Turn, turned}

-- what a call that puts frames is given besides the link: the encoder's bytes, the pool of messages and the sink
pub record Carrier : Type 0 where
  pub bytes : Header → List ℕ
  pub pool : List ℕ
  pub sink : Model

abbrev pub carrier : (Header → List ℕ) → List ℕ → Model → Carrier
carrier bytes pool sink = record { bytes = bytes; pool = pool; sink = sink }

-- what an accepted send answers
pub data Sent : Type 0 where
  ticket : ℕ → Sent
  settled : DeliveryTag → Sent

-- ---- what goes out

-- the message at a place of the pool
abbrev pub message : List ℕ → Place → List ℕ
message pool p = take p.len (drop p.start pool)

abbrev pub payload : Carrier → Sendable → List ℕ
payload c m = message c.pool m.place

-- a delivery's number is the count before it, and its tag that count's
abbrev pub next_number : View → ℕ
next_number v = v.flow.delivery_count

abbrev pub next_tag : View → DeliveryTag
next_tag v = tag_of (next_number v)

abbrev pub goes_settled : View → Sendable → Bool
goes_settled v m = settles v.settings.snd_settle_mode m.settled

abbrev pub transfer_of : View → Sendable → Transfer
transfer_of v m =
    record {
      handle = unwrap_or v.output 0;
      delivery_id = None;
      delivery_tag = Some (next_tag v);
      message_format = Some m.message_format;
      settled = Some (goes_settled v m);
      more = false;
      state = m.state;
      resume = false;
      aborted = false;
      batchable = m.batchable;
    }

-- what a frame has left for the payload
abbrev pub share_of : (frame size : ℕ) → ℕ
share_of frame size = frame - 4 - size

-- no frame fits, or only empty ones for a message that is not
abbrev pub narrow : (frame size len : ℕ) → Bool
narrow frame size len = nat_lt frame (size + 4) || (share_of frame size == 0 && nat_lt 0 len)

-- what the frames of a transfer have left for its payload
abbrev pub share_by : View → Carrier → Transfer → ℕ
share_by v c t = share_of v.settings.max_frame_size (measured c.bytes t)

abbrev pub size_for : View → Carrier → Sendable → ℕ
size_for v c m = measured c.bytes (transfer_of v m)

abbrev pub share_for : View → Carrier → Sendable → ℕ
share_for v c m = share_by v c (transfer_of v m)

-- the frames of a transfer with a payload
abbrev pub cut : View → Transfer → (share : ℕ) → List ℕ → List Frame
cut v t share msg = frames_of t (unwrap_or v.input 0) (max 1 share) msg

abbrev pub sent_frames : View → Carrier → Sendable → List Frame
sent_frames v c m = cut v (transfer_of v m) (share_for v c m) (payload c m)

-- how many they are
abbrev pub frames_needed : (share : ℕ) → List ℕ → ℕ
frames_needed share msg = count_of (length msg) (max 1 share)

-- ---- what refuses it, in order

-- both handles are known, without which no frame can go out
abbrev pub handled : View → Bool
handled v = is_some v.output && is_some v.input

-- new deliveries may go out
abbrev pub ready : View → Bool
ready v = is_attached v.state && handled v

abbrev pub none_left : {X : Type 0} → List X → Bool
none_left xs = length xs == 0

abbrev pub busy : View → Bool
busy v = not (none_left v.held.resume && none_left v.held.resend)

abbrev pub table_full : View → Bool
table_full v = nat_le v.rooms.table (length v.held.table)

abbrev pub tag_there : DeliveryTag → View → Bool
tag_there t v = is_some (look t v.held.table)

abbrev pub no_seat : View → Bool
no_seat v = not (list_any is_free v.seats)

-- what refuses an entry of this tag: 11, 13
abbrev pub join_rows : DeliveryTag → View → List (Option SendError)
join_rows t v = row (table_full v) fault.TableFull ∷ row (tag_there t v) fault.TagInTable ∷ []

-- what refuses a new delivery: that, and 12
abbrev pub entry_rows : View → List (Option SendError)
entry_rows v = join_rows (next_tag v) v ++ row (no_seat v) fault.NoSeat ∷ []

-- 2, 9, 7, 8, 10, 14, and of an unsettled delivery what refuses its entry
abbrev pub own_rows : View → Carrier → Sendable → List (Option SendError)
own_rows v c m =
    row (not (ready v)) (fault.LinkState IllegalState)
    ∷ row (busy v) fault.ListsNotEmpty
    ∷ row (outside m.place (length c.pool)) fault.OutsidePool
    ∷ row (exceeds v.settings.max_message_size m.place.len) fault.MessageSizeExceeded
    ∷ row (v.flow.link_credit == 0) fault.NoCredit
    ∷ row (narrow v.settings.max_frame_size (size_for v c m) m.place.len) fault.FrameTooSmall
    ∷ cond (goes_settled v m) [] (entry_rows v)

-- then what the sink refuses of the frames: 15, 17, 16
abbrev pub sink_row : Model → (share : ℕ) → List ℕ → Option SendError
sink_row s share msg = option_map of_sink (split_fault s msg (max 1 share))

abbrev pub send_refusal : View → Carrier → Sendable → Option SendError
send_refusal v c m = first (own_rows v c m ++ sink_row c.sink (share_for v c m) (payload c m) ∷ [])

-- ---- what an accepted one does

-- the entry of a delivery that was just sent
abbrev pub first_sent : View → Sendable → Entry
first_sent v m =
    record {
      tag = next_tag v;
      entry = record { place = m.place; state = None; message_format = m.message_format; ticket = next_number v };
    }

abbrev pub with_table : List Entry → Held → Held
with_table t h = record { table = t; resume = h.resume; resend = h.resend }

abbrev pub answer_as : (settled : Bool) → View → Sent
answer_as true v = settled (next_tag v)
answer_as false v = ticket (next_number v)

-- a delivery takes one credit; one that is unsettled joins the table and begins
abbrev pub sent_as : (settled : Bool) → View → Sendable → Turn
sent_as true v m = turned v (consumed v.flow) v.held [] [] []
sent_as false v m = turned v (consumed v.flow) (with_table (v.held.table ++ first_sent v m ∷ []) v.held) (next_number v ∷ []) [] []

abbrev pub sent : View → Sendable → Turn
sent v m = sent_as (goes_settled v m) v m

abbrev pub sent_answer : View → Sendable → Sent
sent_answer v m = answer_as (goes_settled v m) v

abbrev pub send_answer : View → Carrier → Sendable → Result Sent SendError
send_answer v c m = gated (send_refusal v c m) (sent_answer v m)

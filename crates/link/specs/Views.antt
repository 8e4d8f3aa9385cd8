-- What a link holds, and a link as it is made.
use Rattle.std.specs.Prelude.{ℕ, Bool, cond, ◌||◌, List, [], replicate, None, Ok, Err, Option, Result, ◌==◌, nat_lt}
use Rattle.amqp.specs.declared.error.MakeError.{MakeError}
use Rattle.amqp.specs.declared.error.MakeError.TheVariants.{Sizes}
use Rattle.unsettled.specs.declared.slot.Slot.{Slot}
use Rattle.unsettled.specs.declared.message.UnsettledMessage.{UnsettledMessage}
use Rattle.link.specs.declared.state.LinkState.{LinkState}
use Rattle.link.specs.declared.state.LinkState.TheVariants.{Unattached}
use Rattle.link.specs.declared.flow.LinkFlowState.{LinkFlowState}
use Rattle.link.specs.declared.settings.Settings.{Settings}
use Rattle.link.specs.declared.resumption.ResumingDelivery.{ResumingDelivery}
use Rattle.link.specs.declared.seat.Seat.{Seat}
use Rattle.link.specs.declared.seat.Seat.TheVariants.{Free}
use Rattle.link.specs.Credit.{uncredited}

-- an unsettled delivery: its tag with its message's place, state, format and ticket
abbrev pub Entry : Type 0
Entry = Slot UnsettledMessage

-- where the deliveries stand that have not ended
pub record Held : Type 0 where
  pub table : List Entry
  pub resume : List ResumingDelivery
  pub resend : List Entry

-- how much the memory holds that was handed in for each of them
pub record Rooms : Type 0 where
  pub table : ℕ
  pub resume : ℕ
  pub resend : ℕ

-- a link as its callers see it
pub record View : Type 0 where
  pub state : LinkState
  pub output : Option ℕ
  pub input : Option ℕ
  pub settings : Settings
  pub flow : LinkFlowState
  pub held : Held
  pub rooms : Rooms
  pub seats : List Seat

abbrev pub empty : Held
empty = record { table = []; resume = []; resend = [] }

-- a new link, with so many seats
abbrev pub fresh : Settings → (initial : ℕ) → Rooms → (seats : ℕ) → View
fresh settings initial rooms seats =
    record {
      state = Unattached;
      output = None;
      input = None;
      settings = settings;
      flow = uncredited initial;
      held = empty;
      rooms = rooms;
      seats = replicate seats Free;
    }

-- 1 to 1,024 entries and seats, and a resend list no shorter than the table
abbrev pub bad_sizes : Rooms → (seats : ℕ) → Bool
bad_sizes rooms seats =
    (rooms.table == 0) || (nat_lt 1024 rooms.table || (seats == 0 || (nat_lt 1024 seats || nat_lt rooms.resend rooms.table)))

abbrev pub made : Settings → (initial : ℕ) → Rooms → (seats : ℕ) → Result View MakeError
made settings initial rooms seats = cond (bad_sizes rooms seats) (Err Sizes) (Ok (fresh settings initial rooms seats))

-- A dock as it is opened.
use Rattle.std.specs.Prelude.{◌≡◌, ℕ, min, max, true, false, List, replicate, Some, Ok, Err, Result}
use Rattle.amqp.specs.declared.mode.SenderSettleMode.TheVariants.{Unsettled}
use Rattle.amqp.specs.declared.mode.ReceiverSettleMode.TheVariants.{First}
use Rattle.sink.specs.Frames as sinks
use Rattle.unsettled.specs.declared.peer.PeerDelivery.{PeerDelivery}
use Rattle.link.specs.declared.attach.Attach.{Attach}
use Rattle.link.specs.declared.seat.Seat.TheVariants.{Free}
use Rattle.link.specs.declared.settings.Settings.{Settings}
use Rattle.link.specs.declared.state.LinkState.TheVariants.{Attached}
use Rattle.link.specs.Views.{View, Rooms, empty, bad_sizes}
use Rattle.memory.specs.declared.LinkMemory.{LinkMemory}
use Rattle.memory.specs.Sizes.{rooms_in, seats_in}
use Rattle.shipping.specs.declared.report.ShipError.{ShipError}
use Rattle.shipping.specs.declared.report.ShipError.TheVariants.{Refused, NoMemory, Link}
use Rattle.shipping.specs.Docks.{Docked, AtRest}

-- every delivery is unsettled, the receiver settles first, and no message is too long
abbrev pub settings_for : (frame : ℕ) → Settings
settings_for frame = record { snd_settle_mode = Unsettled; rcv_settle_mode = First; max_message_size = 0; max_frame_size = frame }

-- the archive's attach with these deliveries
pub record Answering (unsettled : List PeerDelivery) (a : Attach) : Type 0 where
  pub handle : a.handle ≡ 0
  pub mode : a.snd_settle_mode ≡ Unsettled
  pub receiver : a.rcv_settle_mode ≡ First
  pub target : a.has_target ≡ true
  pub known : a.unsettled.now ≡ unsettled
  pub complete : a.incomplete_unsettled ≡ false
  pub limit : a.max_message_size ≡ 0

-- a link that is attached at both ends and has this credit, and holds no delivery
abbrev pub opened : (frame credit : ℕ) → Rooms → (seats : ℕ) → View
opened frame credit rooms seats =
    record {
      state = Attached;
      output = Some 0;
      input = Some 0;
      settings = settings_for frame;
      flow = record { initial_delivery_count = 0; delivery_count = 0; link_credit = credit };
      held = empty;
      rooms = rooms;
      seats = replicate seats Free;
    }

-- the link, or an error where the memory's sizes do not fit
abbrev pub AttachedIn : LinkMemory → (frame : ℕ) → Result View ShipError → Type 0
AttachedIn m frame (Ok l) = (bad_sizes (rooms_in m) (seats_in m) ≡ false) × (l ≡ opened frame 0 (rooms_in m) (seats_in m))
AttachedIn m frame (Err e) = (bad_sizes (rooms_in m) (seats_in m) ≡ true) × (e ≡ Link)

-- the longest frame that is asked for
abbrev pub frame_cap : ℕ → ℕ
frame_cap frame = min frame 65535

-- a dock at rest, with this frame size and credit
pub record Open (m : LinkMemory) (frame credit : ℕ) (d : Docked) : Type 0 where
  pub link : d.link ≡ opened (frame_cap frame) credit (rooms_in m) (seats_in m)
  pub sink : d.sink ≡ sinks.empty 16 (max (frame_cap frame) 1)
  pub rest : AtRest d.link d.sink

-- the dock, or an error for want of memory, or where the sizes of what the link is lent do not fit
abbrev pub Opening : LinkMemory → (frame credit : ℕ) → Result Docked ShipError → Type 0
Opening m frame credit (Ok d) = Open m frame credit d
Opening m frame credit (Err (Refused e)) = ⊥
Opening m frame credit (Err NoMemory) = Unit {0}
Opening m frame credit (Err Link) = bad_sizes (rooms_in m) (seats_in m) ≡ true

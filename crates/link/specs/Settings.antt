-- What both ends agree on: settlement and the longest message.
use Rattle.std.specs.Prelude.{ℕ, min, Bool, true, false, cond, not, ◌&&◌, Option, ◌==◌, nat_lt}
use Rattle.std.specs.Option.{unwrap_or}
use Rattle.amqp.specs.declared.mode.SenderSettleMode.{SenderSettleMode}
use Rattle.amqp.specs.declared.mode.SenderSettleMode.TheVariants.{Unsettled, Settled, Mixed}
use Rattle.amqp.specs.declared.mode.ReceiverSettleMode.{ReceiverSettleMode}
use Rattle.link.specs.declared.settings.Settings.{Settings}

-- whether a delivery goes out settled: as the mode has it, or as asked, else unsettled
abbrev pub settles : SenderSettleMode → Option Bool → Bool
settles Settled asked = true
settles Unsettled asked = false
settles Mixed asked = unwrap_or asked false

-- the smaller of two limits, 0 being none
abbrev pub smaller_limit : ℕ → ℕ → ℕ
smaller_limit a b = cond (a == 0) b (cond (b == 0) a (min a b))

abbrev pub exceeds : (limit len : ℕ) → Bool
exceeds limit len = not (limit == 0) && nat_lt limit len

-- one end settles every delivery, and the other none
abbrev pub conflict : SenderSettleMode → SenderSettleMode → Bool
conflict Unsettled Unsettled = false
conflict Unsettled Settled = true
conflict Unsettled Mixed = false
conflict Settled Unsettled = true
conflict Settled Settled = false
conflict Settled Mixed = false
conflict Mixed peer = false

abbrev pub with_limit : ℕ → Settings → Settings
with_limit n s =
    record {
      snd_settle_mode = s.snd_settle_mode;
      rcv_settle_mode = s.rcv_settle_mode;
      max_message_size = n;
      max_frame_size = s.max_frame_size;
    }

abbrev pub with_receiver : ReceiverSettleMode → Settings → Settings
with_receiver mode s =
    record {
      snd_settle_mode = s.snd_settle_mode;
      rcv_settle_mode = mode;
      max_message_size = s.max_message_size;
      max_frame_size = s.max_frame_size;
    }

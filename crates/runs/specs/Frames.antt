-- What goes out: the frames of a call, by what they carry and how they fit, in words that name no cutting.
use Rattle.std.specs.Prelude.{◌≡◌, ℕ, ◌≤◌, max, Bool, true, false, List, [], ◌∷◌, length, drop, Some, None}
use Rattle.std.specs.Option.{unwrap_or}
use Rattle.amqp.specs.declared.header.FrameKind.{FrameKind}
use Rattle.amqp.specs.declared.header.FrameKind.TheVariants as kind
use Rattle.amqp.specs.declared.header.Header.TheVariants as header
use Rattle.amqp.specs.declared.header.Transfer.{Transfer}
use Rattle.amqp.specs.Headers.{with_id_more, continuation_of, Widest}
use Rattle.sink.specs.Cuts.{Carries}
use Rattle.sink.specs.Frames.{Frame, frame}
use Rattle.link.specs.declared.resumption.ResumingDelivery.{ResumingDelivery}
use Rattle.link.specs.declared.resumption.ResumingDelivery.TheVariants as item
use Rattle.link.specs.Calls.{Call, Open, Attach, Flow, Send, Disposition, Dispose, Work, Resend, Detach, Look, Collect, refused}
use Rattle.link.specs.Disposing.{disposed_frames}
use Rattle.link.specs.Resending.{again}
use Rattle.link.specs.Sending.{Carrier, message, transfer_of, share_by}
use Rattle.link.specs.Views.{View, Entry}
use Rattle.link.specs.Working.{coming_back, place_in, start_in, state_from}

-- a delivery's first frame has the whole transfer, the others a continuation
abbrev pub as_kind : FrameKind → Transfer → Transfer
as_kind kind.First t = t
as_kind kind.Continuation t = continuation_of t
as_kind kind.Disposition t = t

-- a frame of a transfer, with `more` set or not
abbrev pub carrying : FrameKind → (handle : ℕ) → Transfer → (more : Bool) → List ℕ → Frame
carrying k handle t more p = frame k handle (header.Transfer (with_id_more (as_kind k t) (as_kind k t).delivery_id more)) p

-- the frames in a row: full parts with `more` set, and then the last, with what is left
abbrev pub Laid : Transfer → (handle width : ℕ) → FrameKind → List Frame → Type 0
Laid t handle width k [] = ⊥
Laid t handle width k (f ∷ []) = (f ≡ carrying k handle t false f.payload) × (length f.payload ≤ width)
Laid t handle width k (f ∷ (g ∷ fs)) =
    (f ≡ carrying k handle t true f.payload) × (length f.payload ≡ width) × Laid t handle width kind.Continuation (g ∷ fs)

-- what goes out for a delivery: a payload, in frames that fit under any delivery id, for every encoder that keeps its law
pub record PutsTransfer (v : View) (c : Carrier) (t : Transfer) (msg : List ℕ) (fs : List Frame) : Type 0 where
  pub laid : Laid t (unwrap_or v.input 0) (max 1 (share_by v c t)) kind.First fs
  pub carries : Widest c.bytes t → Carries c.bytes v.settings.max_frame_size msg fs

-- by the first item of the resume list: a resumption carries the message from where the rules start it, a restatement all of it,
-- an abort and a settling nothing
abbrev pub WorkPuts : View → Carrier → List ResumingDelivery → List Frame → Type 0
WorkPuts v c [] fs = fs ≡ []
WorkPuts v c (item.Resend e ∷ is) fs = fs ≡ []
WorkPuts v c (item.Resume e p ∷ is) fs =
    PutsTransfer v c (coming_back v e.tag e.entry.message_format (Some false) (Some (state_from (place_in c.pool e.entry.place p) p)) false)
    (drop (start_in c.pool e.entry.place p) (message c.pool e.entry.place)) fs
WorkPuts v c (item.Abort e ∷ is) fs = PutsTransfer v c (coming_back v e.tag e.entry.message_format None None true) [] fs
WorkPuts v c (item.RestateOutcome e ∷ is) fs =
    PutsTransfer v c (coming_back v e.tag e.entry.message_format (Some false) e.entry.state false) (message c.pool e.entry.place) fs
WorkPuts v c (item.Settling t f o ∷ is) fs = PutsTransfer v c (coming_back v t f (Some true) (Some o) false) [] fs

-- by the first of the resend list: all of its message
abbrev pub ResendPuts : View → Carrier → List Entry → List Frame → Type 0
ResendPuts v c [] fs = fs ≡ []
ResendPuts v c (e ∷ es) fs = PutsTransfer v c (transfer_of v (again e)) (message c.pool e.entry.place) fs

-- what an accepted call puts
abbrev pub GoesOut : View → Call → List Frame → Type 0
GoesOut v (Open handle incomplete) fs = fs ≡ []
GoesOut v (Attach a pool) fs = fs ≡ []
GoesOut v (Flow i) fs = fs ≡ []
GoesOut v (Send c m) fs = PutsTransfer v c (transfer_of v m) (message c.pool m.place) fs
GoesOut v (Disposition t b s) fs = fs ≡ []
GoesOut v (Dispose k d) fs = fs ≡ disposed_frames v d
GoesOut v (Work c) fs = WorkPuts v c v.held.resume fs
GoesOut v (Resend c) fs = ResendPuts v c v.held.resend fs
GoesOut v (Detach closed error) fs = fs ≡ []
GoesOut v (Look k) fs = fs ≡ []
GoesOut v (Collect k) fs = fs ≡ []

pub record PutsRight (v : View) (c : Call) (fs : List Frame) : Type 0 where
  pub none_where_refused : refused v c ≡ true → fs ≡ []
  pub right_where_accepted : refused v c ≡ false → GoesOut v c fs

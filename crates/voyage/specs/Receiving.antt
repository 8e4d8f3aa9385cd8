-- What the archive keeps of a delivery whose frames may be cut off and come back.
use Rattle.std.specs.Prelude.{◌≡◌, ℕ, Bool, true, false, cond, nat_lt, List, [], ◌++◌, length, take, Some, None, Ok, Err, Option, Result}
use Rattle.amqp.specs.declared.header.FrameKind.{FrameKind}
use Rattle.amqp.specs.declared.header.FrameKind.TheVariants as kind
use Rattle.amqp.specs.declared.header.Header.{Header}
use Rattle.amqp.specs.declared.header.Header.TheVariants as header
use Rattle.amqp.specs.declared.header.Transfer.{Transfer}
use Rattle.amqp.specs.declared.state.DeliveryState.{DeliveryState}
use Rattle.amqp.specs.declared.state.DeliveryState.TheVariants as state
use Rattle.amqp.specs.declared.state.Received.{Received as Place}
use Rattle.amqp.specs.declared.tag.DeliveryTag.{DeliveryTag}
use Rattle.amqp.specs.Tags.{tag_bytes}
use Rattle.unsettled.specs.declared.peer.PeerDelivery.{PeerDelivery}
use Rattle.unsettled.specs.Tables.{same_tag}
use Rattle.shipping.specs.Texts.{raised}
use Rattle.voyage.specs.declared.receiver.ReceiveError.{ReceiveError}
use Rattle.voyage.specs.declared.receiver.ReceiveError.TheVariants.{NoMemory, NoTag, Stray, Interleaved, Beyond}

-- what came of a delivery, and in how many frames
pub record Piece : Type 0 where
  pub tag : DeliveryTag
  pub frames : ℕ
  pub bytes : List ℕ

-- how many frames were read, and the delivery that is not finished
pub record Intake : Type 0 where
  pub frames : ℕ
  pub part : Option Piece

-- nothing has come
abbrev pub untouched : Intake
untouched = record { frames = 0; part = None }

abbrev pub fresh : DeliveryTag → Piece
fresh tag = record { tag = tag; frames = 0; bytes = [] }

-- ---- what the archive says that it has

-- how far it has come with a delivery: a place in the message's only section (Part 3, 3.4.1)
abbrev pub reached : Piece → Place
reached p = record { section_number = 0; section_offset = length p.bytes }

-- a delivery in its map of unsettled deliveries: the tag's bytes, and the state
abbrev pub known : Piece → List ℕ × Option DeliveryState
known p = (tag_bytes p.tag, Some (state.Received (reached p)))

abbrev pub listed : PeerDelivery → List ℕ × Option DeliveryState
listed p = (p.tag.now, p.state)

-- ---- what a first frame says

abbrev pub came_by : (resume : Bool) → Option DeliveryState → ℕ
came_by true (Some (state.Received p)) = p.section_offset
came_by true (Some state.Accepted) = 0
came_by true (Some (state.Rejected e)) = 0
came_by true (Some state.Released) = 0
came_by true (Some (state.Modified f u)) = 0
came_by true None = 0
came_by false s = 0

-- how many bytes of what came a first frame goes on from (Part 3, 3.4.1): our messages have one section
abbrev pub kept_of : Transfer → ℕ
kept_of t = came_by t.resume t.state

-- ---- what a frame's payload joins

-- how many bytes came of a delivery: where another one is not finished, this one cannot come
abbrev pub came_of : DeliveryTag → Option Piece → Result ℕ ReceiveError
came_of tag None = Ok 0
came_of tag (Some p) = cond (same_tag p.tag tag) (Ok (length p.bytes)) (Err Interleaved)

abbrev pub going_on : DeliveryTag → (kept : ℕ) → Result ℕ ReceiveError → Result (DeliveryTag × ℕ) ReceiveError
going_on tag kept (Err e) = Err e
going_on tag kept (Ok came) = cond (nat_lt came kept) (Err Beyond) (Ok (tag, kept))

abbrev pub beginning : Option DeliveryTag → (kept : ℕ) → Option Piece → Result (DeliveryTag × ℕ) ReceiveError
beginning None kept o = Err NoTag
beginning (Some tag) kept o = going_on tag kept (came_of tag o)

abbrev pub continuing : Option Piece → Result (DeliveryTag × ℕ) ReceiveError
continuing None = Err Stray
continuing (Some p) = Ok (p.tag, length p.bytes)

-- the delivery of a frame, and how many bytes of what came of it stay
abbrev pub joining : FrameKind → Transfer → Option Piece → Result (DeliveryTag × ℕ) ReceiveError
joining kind.First t o = beginning t.delivery_tag (kept_of t) o
joining kind.Continuation t o = continuing o
joining kind.Disposition t o = beginning t.delivery_tag (kept_of t) o

-- ---- what comes of it

abbrev pub bytes_of : Option Piece → List ℕ
bytes_of None = []
bytes_of (Some p) = p.bytes

abbrev pub frames_of : Option Piece → ℕ
frames_of None = 0
frames_of (Some p) = p.frames

-- a payload joins so many bytes of what came
abbrev pub joined : DeliveryTag → (kept : ℕ) → (payload : List ℕ) → Option Piece → Piece
joined tag kept payload o = record { tag = tag; frames = raised (frames_of o) 1; bytes = take kept (bytes_of o) ++ payload }

-- what is not finished is kept, but for an aborted delivery
abbrev pub unfinished : (aborted more : Bool) → Piece → Option Piece
unfinished true more p = None
unfinished false true p = Some p
unfinished false false p = None

abbrev pub finished : (aborted more : Bool) → Piece → Option Piece
finished true more p = None
finished false true p = None
finished false false p = Some p

abbrev pub took : Transfer → Piece → Intake → Intake
took t p a =
    record { frames = raised a.frames 1; part = unfinished t.aborted t.more p }

-- a transfer's frame is refused, which changes nothing, or its payload joins what came; a finished delivery is handed out
abbrev pub Taken : FrameKind → Transfer → (payload : List ℕ) → Intake → Result (Option Piece) ReceiveError → Intake → Type 0
Taken k t payload a (Ok r) b =
    (tag : DeliveryTag)
    × (kept : ℕ)
    × (joining k t a.part ≡ Ok (tag, kept))
    × (r ≡ finished t.aborted t.more (joined tag kept payload a.part))
    × (b ≡ took t (joined tag kept payload a.part) a)
Taken k t payload a (Err NoMemory) b = Unit {0}
Taken k t payload a (Err NoTag) b = (joining k t a.part ≡ Err NoTag) × (b ≡ a)
Taken k t payload a (Err Stray) b = (joining k t a.part ≡ Err Stray) × (b ≡ a)
Taken k t payload a (Err Interleaved) b = (joining k t a.part ≡ Err Interleaved) × (b ≡ a)
Taken k t payload a (Err Beyond) b = (joining k t a.part ≡ Err Beyond) × (b ≡ a)

-- a disposition brings nothing
abbrev pub Received : FrameKind → Header → (payload : List ℕ) → Intake → Result (Option Piece) ReceiveError → Intake → Type 0
Received k (header.Transfer t) payload a r b = Taken k t payload a r b
Received k (header.Disposition d) payload a r b = (r ≡ Ok None) × (b ≡ a)

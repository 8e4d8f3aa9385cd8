-- The commands, word by word.
use Rattle.std.specs.Prelude.{◌≡◌, ℕ, Bool, ◌^◌, ◌<◌, ◌≤◌, List, [], ◌∷◌, ◌++◌, Option, None, codes, decimal, Result, IfOk, IfErr, map}
use Rattle.std.specs.List.{join_with_byte}
use Rattle.amqp.specs.declared.condition.AmqpError.{AmqpError}
use Rattle.amqp.specs.declared.state.DeliveryState.{DeliveryState}
use Rattle.amqp.specs.declared.tag.DeliveryTag.{DeliveryTag}
use Rattle.amqp.specs.Tags.{tag_bytes}
use Rattle.amqp.specs.Texts.{state_text}
use Rattle.headers_text.specs.Shows.{or_none}
use Rattle.headers_text.specs.Hex.{pairs}
use Rattle.link.specs.declared.settings.Settings.{Settings}
use Rattle.link.specs.declared.delivery.Disposal.{Disposal}
use Rattle.link.specs.declared.delivery.Sendable.{Sendable}
use Rattle.link.specs.declared.flow.LinkFlow.{LinkFlow}
use Rattle.scenario_text.specs.declared.command.Command.{Command}
use Rattle.scenario_text.specs.declared.command.Command.TheVariants as c
use Rattle.scenario_text.specs.declared.command.EncoderForm.{EncoderForm}
use Rattle.scenario_text.specs.declared.command.EncoderForm.TheVariants.{Compact, Wide}
use Rattle.scenario_text.specs.declared.command.LinkSizes.{LinkSizes}
use Rattle.scenario_text.specs.declared.command.PeerAttach.{PeerAttach}
use Rattle.scenario_text.specs.declared.command.PoolSource.{PoolSource}
use Rattle.scenario_text.specs.declared.command.PoolSource.TheVariants.{Digits, Repeat, File}
use Rattle.scenario_text.specs.declared.fault.Fault.{Fault}
use Rattle.scenario_text.specs.declared.fault.Fault.TheVariants.{OutOfMemory}
use Rattle.scenario_text.specs.Shown.{truth_word, truth_or_none, number_or_none, condition_word, sender_word, receiver_word, state_word, state_or_none, tag_word, reason_word}
use Rattle.scenario_text.specs.Values.{IsState, AreBytes, IfThere, bytes_text}
use Rattle.scenario_text.specs.Words.{keyed}

-- a pair of a peer's map: a tag's bytes, and a state
abbrev pub Pair : Type 0
Pair = List ℕ × Option DeliveryState

abbrev pub pair_text : Pair → List ℕ
pair_text p = bytes_text p.0 ++ (codes "=" ++ or_none state_text p.1)

-- pairs between semicolons, or the word for none
unfoldable pub list_text : List Pair → List ℕ
list_text [] = codes "none"
list_text (p ∷ ps) = join_with_byte 59 (map pair_text (p ∷ ps))

unfoldable pub settings_words : Settings → List (List ℕ)
settings_words s =
    keyed (codes "sender") (sender_word s.snd_settle_mode)
    ∷ keyed (codes "receiver") (receiver_word s.rcv_settle_mode)
    ∷ keyed (codes "limit") (decimal s.max_message_size)
    ∷ keyed (codes "frame") (decimal s.max_frame_size)
    ∷ []

unfoldable pub link_words : LinkSizes → List (List ℕ)
link_words l =
    keyed (codes "table") (decimal l.table)
    ∷ keyed (codes "resume") (decimal l.resume)
    ∷ keyed (codes "resend") (decimal l.resend)
    ∷ keyed (codes "seats") (decimal l.seats)
    ∷ (settings_words l.settings ++ (keyed (codes "count") (decimal l.initial_delivery_count) ∷ []))

abbrev pub form_text : EncoderForm → List ℕ
form_text Compact = codes "compact"
form_text Wide = codes "wide"

-- one byte as two digits
unfoldable pub byte_text : ℕ → List ℕ
byte_text b = pairs (b ∷ [])

unfoldable pub pool_words : PoolSource → List (List ℕ)
pool_words (Digits d) = d.now ∷ []
pool_words (Repeat count byte) = keyed (codes "repeat") (decimal count) ∷ keyed (codes "byte") (byte_text byte) ∷ []
pool_words (File path) = keyed (codes "file") path.now ∷ []

unfoldable pub attach_words : PeerAttach → List Pair → List (List ℕ)
attach_words a ps =
    keyed (codes "handle") (decimal a.handle)
    ∷ keyed (codes "incomplete") (truth_word a.incomplete_unsettled)
    ∷ keyed (codes "receiver") (receiver_word a.rcv_settle_mode)
    ∷ keyed (codes "sender") (sender_word a.snd_settle_mode)
    ∷ keyed (codes "target") (truth_word a.has_target)
    ∷ keyed (codes "limit") (decimal a.max_message_size)
    ∷ keyed (codes "unsettled") (list_text ps)
    ∷ []

unfoldable pub flow_words : LinkFlow → List (List ℕ)
flow_words f =
    keyed (codes "count") (number_or_none f.delivery_count)
    ∷ keyed (codes "credit") (number_or_none f.link_credit)
    ∷ keyed (codes "drain") (truth_word f.drain)
    ∷ keyed (codes "echo") (truth_word f.echo)
    ∷ []

unfoldable pub send_words : Sendable → List (List ℕ)
send_words s =
    keyed (codes "start") (decimal s.place.start)
    ∷ keyed (codes "length") (decimal s.place.len)
    ∷ keyed (codes "format") (decimal s.message_format)
    ∷ keyed (codes "settled") (truth_or_none s.settled)
    ∷ keyed (codes "state") (state_or_none s.state)
    ∷ keyed (codes "batchable") (truth_word s.batchable)
    ∷ []

unfoldable pub disposition_words : DeliveryTag × Bool × Option DeliveryState → List (List ℕ)
disposition_words d =
    keyed (codes "tag") (tag_word d.0)
    ∷ keyed (codes "settled") (truth_word d.1)
    ∷ keyed (codes "state") (state_or_none d.2)
    ∷ []

unfoldable pub detach_words : Bool × Option AmqpError → List (List ℕ)
detach_words d = keyed (codes "closed") (truth_word d.0) ∷ keyed (codes "condition") (condition_word d.1) ∷ []

unfoldable pub show_words : Bool × ℕ × ℕ → List (List ℕ)
show_words s =
    keyed (codes "reattaching") (truth_word s.0)
    ∷ keyed (codes "denominator") (decimal s.1)
    ∷ keyed (codes "room") (decimal s.2)
    ∷ []

unfoldable pub dispose_words : Disposal → List (List ℕ)
dispose_words d =
    keyed (codes "id") (decimal d.delivery_id)
    ∷ keyed (codes "tag") (tag_word d.delivery_tag)
    ∷ keyed (codes "settled") (truth_word d.settled)
    ∷ keyed (codes "state") (state_word d.state)
    ∷ keyed (codes "batchable") (truth_word d.batchable)
    ∷ []

-- a command's words; the pairs are those of an attach's list
abbrev pub words_of : Command → List Pair → List (List ℕ)
words_of (c.Link l) ps = codes "link" ∷ link_words l
words_of (c.Queue places widest memory) ps =
    codes "queue" ∷ keyed (codes "places") (decimal places) ∷ keyed (codes "widest") (decimal widest) ∷ keyed (codes "memory") (decimal memory) ∷ []
words_of (c.Spool memory widest) ps =
    codes "spool" ∷ keyed (codes "memory") (decimal memory) ∷ keyed (codes "widest") (decimal widest) ∷ []
words_of (c.Encoder form) ps = codes "encoder" ∷ form_text form ∷ []
words_of (c.Pool source) ps = codes "pool" ∷ pool_words source
words_of (c.Open handle incomplete) ps =
    codes "open" ∷ keyed (codes "handle") (decimal handle) ∷ keyed (codes "incomplete") (truth_word incomplete) ∷ []
words_of (c.Attach a) ps = codes "attach" ∷ attach_words a ps
words_of (c.Flow f) ps = codes "flow" ∷ flow_words f
words_of (c.Send s) ps = codes "send" ∷ send_words s
words_of (c.Disposition tag settled state) ps = codes "disposition" ∷ disposition_words (tag, settled, state)
words_of (c.Dispose d) ps = codes "dispose" ∷ dispose_words d
words_of c.Work ps = codes "work" ∷ []
words_of c.Resend ps = codes "resend" ∷ []
words_of (c.Detach closed error) ps = codes "detach" ∷ detach_words (closed, error)
words_of (c.Look n) ps = codes "look" ∷ decimal n ∷ []
words_of (c.Collect n) ps = codes "collect" ∷ decimal n ∷ []
words_of c.Take ps = codes "take" ∷ []
words_of c.Empty ps = codes "empty" ∷ []
words_of (c.Stop reason) ps = codes "stop" ∷ reason_word reason ∷ []
words_of (c.Show reattaching denominator room) ps = codes "show" ∷ show_words (reattaching, denominator, room)
words_of c.State ps = codes "state" ∷ []

abbrev pub IsSettings : Settings → Type 0
IsSettings s = (s.max_message_size < 2 ^ 64) × (s.max_frame_size < 2 ^ 32)

abbrev pub IsLink : LinkSizes → Type 0
IsLink l =
    (l.table ≤ 100000) × (l.resume ≤ 100000) × (l.resend ≤ 100000) × (l.seats ≤ 100000) × IsSettings l.settings × (l.initial_delivery_count < 2 ^ 32)

-- digits are any word that has no key of another source
abbrev pub IsPool : PoolSource → Type 0
IsPool (Digits d) = ((v : List ℕ) → d.now ≡ keyed (codes "file") v → ⊥) × ((v : List ℕ) → d.now ≡ keyed (codes "repeat") v → ⊥)
IsPool (Repeat count byte) = (count ≤ 70000000) × (byte < 256)
IsPool (File path) = Unit {0}

abbrev pub IsSmall : ℕ → Type 0
IsSmall n = n < 2 ^ 32

abbrev pub IsFlow : LinkFlow → Type 0
IsFlow f = (f.handle ≡ None) × (f.available ≡ None) × IfThere IsSmall f.delivery_count × IfThere IsSmall f.link_credit

abbrev pub IsTag : DeliveryTag → Type 0
IsTag t = AreBytes (tag_bytes t)

abbrev pub IsAttach : PeerAttach → Type 0
IsAttach a = (a.handle < 2 ^ 32) × (a.max_message_size < 2 ^ 64)

abbrev pub IsSend : Sendable → Type 0
IsSend s = (s.place.start < 2 ^ 64) × (s.place.len < 2 ^ 64) × (s.message_format < 2 ^ 32) × IfThere IsState s.state

abbrev pub IsDisposition : DeliveryTag × Bool × Option DeliveryState → Type 0
IsDisposition d = IsTag d.0 × IfThere IsState d.2

abbrev pub IsDispose : Disposal → Type 0
IsDispose d = (d.delivery_id < 2 ^ 32) × IsTag d.delivery_tag × IsState d.state

abbrev pub IsShow : Bool × ℕ × ℕ → Type 0
IsShow s = (s.1 < 2 ^ 64) × (s.2 ≤ 100000)

-- the commands that there are: their numbers are in their ranges
abbrev pub IsCommand : Command → Type 0
IsCommand (c.Link l) = IsLink l
IsCommand (c.Queue places widest memory) = (places ≤ 100000) × (widest < 2 ^ 64) × (memory ≤ 1073741824)
IsCommand (c.Spool memory widest) = (memory ≤ 1073741824) × (widest < 2 ^ 64)
IsCommand (c.Encoder form) = Unit {0}
IsCommand (c.Pool source) = IsPool source
IsCommand (c.Open handle incomplete) = handle < 2 ^ 32
IsCommand (c.Attach a) = IsAttach a
IsCommand (c.Flow f) = IsFlow f
IsCommand (c.Send s) = IsSend s
IsCommand (c.Disposition tag settled state) = IsDisposition (tag, settled, state)
IsCommand (c.Dispose d) = IsDispose d
IsCommand c.Work = Unit {0}
IsCommand c.Resend = Unit {0}
IsCommand (c.Detach closed error) = Unit {0}
IsCommand (c.Look n) = n < 2 ^ 32
IsCommand (c.Collect n) = n < 2 ^ 32
IsCommand c.Take = Unit {0}
IsCommand c.Empty = Unit {0}
IsCommand (c.Stop reason) = Unit {0}
IsCommand (c.Show reattaching denominator room) = IsShow (reattaching, denominator, room)
IsCommand c.State = Unit {0}

-- only an attach has a list
abbrev pub ListIsOf : Command → List Pair → Type 0
ListIsOf (c.Attach a) list = Unit {0}
ListIsOf x list = list ≡ []

-- all commands but an attach
abbrev pub IsPlain : Command → Type 0
IsPlain (c.Attach a) = ⊥
IsPlain x = Unit {0}

-- r is the command that the words `name ∷ old` begin with, whose list has these pairs, and `new` is left; or, if memory is there, they begin with no command that is plain
pub record Commands (name : List ℕ) (old new : List (List ℕ)) (list : List Pair) (r : Result Command Fault) : Type 0 where
  pub taken : IfOk r (λ x. IsCommand x × ListIsOf x list × (name ∷ old ≡ words_of x list ++ new))
  pub refused : IfErr r (λ f. (f ≡ OutOfMemory → ⊥) → (x : Command) (rest : List (List ℕ)) → IsCommand x → IsPlain x → name ∷ old ≡ words_of x [] ++ rest → ⊥)

-- the attach that the words `old` begin with, whose list has these pairs, and `new` is left
abbrev pub TakesAttach : List (List ℕ) → List (List ℕ) → List Pair → Result PeerAttach Fault → Type 0
TakesAttach old new list r = IfOk r (λ x. IsAttach x × (old ≡ attach_words x list ++ new))

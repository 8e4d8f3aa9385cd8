-- Open and attach.
use Rattle.std.specs.Prelude.{ℕ, Bool, cond, not, ◌+◌, ◌&&◌, ◌||◌, List, [], ◌∷◌, ◌++◌, length, is_some, Some, Option, Result, ◌==◌, nat_lt}
use Rattle.std.specs.List.{flat_map}
use Rattle.std.specs.Option.{option_or, unwrap_or}
use Rattle.amqp.specs.declared.error.LinkStateError.{LinkStateError}
use Rattle.amqp.specs.declared.error.LinkStateError.TheVariants.{IllegalState}
use Rattle.amqp.specs.declared.error.SenderAttachError.{SenderAttachError}
use Rattle.amqp.specs.declared.error.SenderAttachError.TheVariants as fault
use Rattle.unsettled.specs.Messages.{any_outside}
use Rattle.unsettled.specs.Peers.{illegal_tags}
use Rattle.link.specs.declared.attach.Attach.{Attach}
use Rattle.link.specs.declared.attach.SenderAttachExchange.{SenderAttachExchange}
use Rattle.link.specs.declared.attach.SenderAttachExchange.TheVariants.{Complete, IncompleteUnsettled, Resume}
use Rattle.link.specs.declared.settings.Settings.{Settings}
use Rattle.link.specs.declared.state.LinkState.{LinkState}
use Rattle.link.specs.Resuming.{item_of, end_of}
use Rattle.link.specs.Rows.{row, first, gated, unless}
use Rattle.link.specs.Settings.{with_limit, with_receiver, smaller_limit, conflict}
use Rattle.link.specs.States.{after_open, after_attach, is_incomplete}
use Rattle.link.specs.Turns.{Turn, moved}
use Rattle.link.specs.Views.{View, Held}

-- a state that has no way on is refused
abbrev pub stuck : {E : Type 0} → Option LinkState → E → Option E
stuck next e = row (not (is_some next)) e

-- ---- open: 2

abbrev pub open_refusal : View → (incomplete : Bool) → Option LinkStateError
open_refusal v incomplete = stuck (after_open v.state incomplete) IllegalState

abbrev pub opened_state : View → (incomplete : Bool) → LinkState
opened_state v incomplete = unwrap_or (after_open v.state incomplete) v.state

abbrev pub opened : View → (handle : ℕ) (incomplete : Bool) → Turn
opened v handle incomplete = moved v (opened_state v incomplete) (Some handle) v.input v.settings v.held []

abbrev pub open_answer : View → (incomplete : Bool) → Result LinkState LinkStateError
open_answer v incomplete = gated (open_refusal v incomplete) (opened_state v incomplete)

-- ---- attach: before the move 2, 5, 6 (over 1,024 pairs, or no room in the resume list), 7

abbrev pub next_state : View → Attach → Option LinkState
next_state v a = after_attach v.state a.incomplete_unsettled

abbrev pub too_many : View → Attach → Bool
too_many v a = nat_lt 1024 (length a.unsettled.now) || nat_lt v.rooms.resume (length v.held.resume + length v.held.table)

abbrev pub attach_rows : View → Attach → (pool : List ℕ) → List (Option SenderAttachError)
attach_rows v a pool =
    stuck (next_state v a) fault.IllegalState ∷ row (illegal_tags a.unsettled.now) fault.IllegalTag ∷ row (too_many v a) fault.TooManyUnsettled
    ∷ row (any_outside v.held.table (length pool)) fault.OutsidePool ∷ []

abbrev pub attach_refusal : View → Attach → (pool : List ℕ) → Option SenderAttachError
attach_refusal v a pool = first (attach_rows v a pool)

-- ---- and after it 3, which leaves state and input handle moved, and 4, which leaves the receiver mode too

abbrev pub no_target : Attach → Option SenderAttachError
no_target a = row (not a.has_target) fault.IncomingTargetIsNone

abbrev pub modes_conflict : View → Attach → Option SenderAttachError
modes_conflict v a = row (conflict v.settings.snd_settle_mode a.snd_settle_mode) fault.SndSettleModeNotSupported

abbrev pub late_refusal : View → Attach → Option SenderAttachError
late_refusal v a = first (no_target a ∷ modes_conflict v a ∷ [])

abbrev pub attached_state : View → Attach → LinkState
attached_state v a = unwrap_or (next_state v a) v.state

abbrev pub receiving : View → Attach → Settings
receiving v a = with_receiver a.rcv_settle_mode v.settings

abbrev pub limited : View → Attach → Settings
limited v a = with_limit (smaller_limit v.settings.max_message_size a.max_message_size) (receiving v a)

-- the settings that the move leaves
abbrev pub attached_settings : View → Attach → Settings
attached_settings v a = unless (no_target a) v.settings (unless (modes_conflict v a) (receiving v a) (limited v a))

-- the table is emptied in its order; what does not end joins the resume list
abbrev pub resumed : View → Attach → Held
resumed v a = record { table = []; resume = v.held.resume ++ flat_map (item_of a) v.held.table; resend = v.held.resend }

abbrev pub attached : View → Attach → Turn
attached v a =
    moved v (attached_state v a) v.output (Some a.handle) (attached_settings v a) (unless (late_refusal v a) v.held (resumed v a))
    (unless (late_refusal v a) [] (flat_map (end_of a) v.held.table))

abbrev pub none_unsettled : View → Attach → Bool
none_unsettled v a = length v.held.table == 0 && length a.unsettled.now == 0

-- what the exchange of attaches came to, in the state that it led to
abbrev pub exchanged : LinkState → View → Attach → SenderAttachExchange
exchanged state v a = cond (none_unsettled v a) Complete (cond (is_incomplete state) IncompleteUnsettled Resume)

abbrev pub exchange : View → Attach → SenderAttachExchange
exchange v a = exchanged (attached_state v a) v a

abbrev pub attach_answer : View → Attach → (pool : List ℕ) → Result SenderAttachExchange SenderAttachError
attach_answer v a pool = gated (option_or (attach_refusal v a pool) (late_refusal v a)) (exchange v a)

-- How the peers' attaches move a link (Part 2, 2.6.3 and 2.7.3).
use Rattle.std.specs.Prelude.{Bool, true, false, Some, None, Option}
use Rattle.link.specs.declared.state.LinkState.{LinkState}
use Rattle.link.specs.declared.state.LinkState.TheVariants.{Unattached, AttachSent, IncompleteAttachSent, AttachReceived, IncompleteAttachReceived, Attached, IncompleteAttachExchanged, Detached, Closed}

-- our attach; the flag says that our map is sent in part. Where the peer's came in part, the link stays incomplete
abbrev pub after_open : LinkState → (incomplete : Bool) → Option LinkState
after_open Unattached false = Some AttachSent
after_open Unattached true = Some IncompleteAttachSent
after_open AttachSent incomplete = None
after_open IncompleteAttachSent incomplete = None
after_open AttachReceived incomplete = Some Attached
after_open IncompleteAttachReceived incomplete = Some IncompleteAttachExchanged
after_open Attached incomplete = None
after_open IncompleteAttachExchanged incomplete = None
after_open Detached false = Some AttachSent
after_open Detached true = Some IncompleteAttachSent
after_open Closed incomplete = None

-- the peer's attach
abbrev pub after_attach : LinkState → (incomplete : Bool) → Option LinkState
after_attach Unattached false = Some AttachReceived
after_attach Unattached true = Some IncompleteAttachReceived
after_attach AttachSent false = Some Attached
after_attach AttachSent true = Some IncompleteAttachExchanged
after_attach IncompleteAttachSent incomplete = Some IncompleteAttachExchanged
after_attach AttachReceived incomplete = None
after_attach IncompleteAttachReceived incomplete = None
after_attach Attached incomplete = None
after_attach IncompleteAttachExchanged incomplete = None
after_attach Detached false = Some AttachReceived
after_attach Detached true = Some IncompleteAttachReceived
after_attach Closed incomplete = None

abbrev pub is_incomplete : LinkState → Bool
is_incomplete Unattached = false
is_incomplete AttachSent = false
is_incomplete IncompleteAttachSent = true
is_incomplete AttachReceived = false
is_incomplete IncompleteAttachReceived = true
is_incomplete Attached = false
is_incomplete IncompleteAttachExchanged = true
is_incomplete Detached = false
is_incomplete Closed = false

-- new deliveries go out
abbrev pub is_attached : LinkState → Bool
is_attached Unattached = false
is_attached AttachSent = false
is_attached IncompleteAttachSent = false
is_attached AttachReceived = false
is_attached IncompleteAttachReceived = false
is_attached Attached = true
is_attached IncompleteAttachExchanged = false
is_attached Detached = false
is_attached Closed = false

-- deliveries that come back may go out (Part 2, 2.7.3)
abbrev pub may_work : LinkState → Bool
may_work Unattached = false
may_work AttachSent = false
may_work IncompleteAttachSent = false
may_work AttachReceived = false
may_work IncompleteAttachReceived = false
may_work Attached = true
may_work IncompleteAttachExchanged = true
may_work Detached = false
may_work Closed = false

abbrev left : (closed : Bool) → LinkState
left true = Closed
left false = Detached

-- the peer's detach
abbrev pub after_detach : LinkState → (closed : Bool) → Option LinkState
after_detach Unattached closed = None
after_detach AttachSent closed = Some (left closed)
after_detach IncompleteAttachSent closed = Some (left closed)
after_detach AttachReceived closed = Some (left closed)
after_detach IncompleteAttachReceived closed = Some (left closed)
after_detach Attached closed = Some (left closed)
after_detach IncompleteAttachExchanged closed = Some (left closed)
after_detach Detached closed = None
after_detach Closed closed = None

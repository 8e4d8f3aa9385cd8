-- The names that are printed of what a call came to.
use Rattle.std.specs.Prelude.{ℕ, List, codes}
use Rattle.link.specs.declared.attach.SenderAttachExchange.{SenderAttachExchange}
use Rattle.link.specs.declared.attach.SenderAttachExchange.TheVariants.{Complete, IncompleteUnsettled, Resume}
use Rattle.link.specs.declared.resumption.Progress.{Progress}
use Rattle.link.specs.declared.resumption.Progress.TheVariants.{Done, Worked}
use Rattle.link.specs.declared.state.LinkState.{LinkState}
use Rattle.link.specs.declared.state.LinkState.TheVariants.{Unattached, AttachSent, IncompleteAttachSent, AttachReceived, IncompleteAttachReceived, Attached, IncompleteAttachExchanged, Detached, Closed}

abbrev pub state_name : LinkState → List ℕ
state_name Unattached = codes "Unattached"
state_name AttachSent = codes "AttachSent"
state_name IncompleteAttachSent = codes "IncompleteAttachSent"
state_name AttachReceived = codes "AttachReceived"
state_name IncompleteAttachReceived = codes "IncompleteAttachReceived"
state_name Attached = codes "Attached"
state_name IncompleteAttachExchanged = codes "IncompleteAttachExchanged"
state_name Detached = codes "Detached"
state_name Closed = codes "Closed"

abbrev pub exchange_name : SenderAttachExchange → List ℕ
exchange_name Complete = codes "Complete"
exchange_name IncompleteUnsettled = codes "IncompleteUnsettled"
exchange_name Resume = codes "Resume"

abbrev pub progress_name : Progress → List ℕ
progress_name Done = codes "Done"
progress_name Worked = codes "Worked"

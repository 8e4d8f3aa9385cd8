-- What the calls that put a delivery's frames have in common: what refuses a task, and what it comes to.
use Rattle.std.specs.Prelude.{ℕ, List, ◌∷◌, Option, Result}
use Rattle.amqp.specs.declared.error.SendError.{SendError}
use Rattle.amqp.specs.declared.error.SendError.TheVariants as fault
use Rattle.amqp.specs.declared.header.Header.{Header}
use Rattle.amqp.specs.declared.header.Transfer.{Transfer}
use Rattle.amqp.specs.Headers.{measured}
use Rattle.link.specs.declared.resumption.Task.{Task}
use Rattle.link.specs.Rows.{row, first, gated}
use Rattle.link.specs.Sending.{narrow, share_of}
use Rattle.link.specs.Views.{View}
use Rattle.link.specs.Working.{joining_rows}

-- what each frame of a transfer has left, where that suffices
abbrev pub shared : View → (Header → List ℕ) → Transfer → (len : ℕ) → Result ℕ SendError
shared v bytes t len =
    gated (row (narrow v.settings.max_frame_size (measured bytes t) len) fault.FrameTooSmall) (share_of v.settings.max_frame_size (measured bytes t))

-- what the link itself refuses of a task: 14, and 11 and 13 of an entry that joins the table
abbrev pub own_rows : View → (Header → List ℕ) → Task → List (Option SendError)
own_rows v bytes t =
    row (narrow v.settings.max_frame_size (measured bytes t.transfer) t.payload.len) fault.FrameTooSmall ∷ joining_rows t.joins v

abbrev pub carriable : View → (Header → List ℕ) → Task → Result ℕ SendError
carriable v bytes t = gated (first (own_rows v bytes t)) (share_of v.settings.max_frame_size (measured bytes t.transfer))

-- What is printed of a header.
use Rattle.std.specs.Prelude.{ℕ, List, ◌++◌, length, Option, None, Some, codes, decimal, ◌==◌, if◌then◌else◌}
use Rattle.amqp.specs.declared.tag.DeliveryTag.{DeliveryTag}
use Rattle.amqp.specs.declared.header.Transfer.{Transfer}
use Rattle.amqp.specs.declared.header.Disposition.{Disposition}
use Rattle.amqp.specs.declared.header.Header.{Header}
use Rattle.amqp.specs.declared.header.Header.TheVariants as header
use Rattle.amqp.specs.Tags.{tag_bytes}
use Rattle.amqp.specs.Texts.{truth, state_text}
use Rattle.headers_text.specs.Hex.{pairs}

-- bytes in digits, or a dash
abbrev pub bytes_text : List ℕ → List ℕ
bytes_text bytes = if length bytes == 0 then codes "-" else pairs bytes

abbrev pub tag_text : DeliveryTag → List ℕ
tag_text t = bytes_text (tag_bytes t)

-- a field that may be absent
abbrev pub or_none : {A : Type 0} → (A → List ℕ) → Option A → List ℕ
or_none text None = codes "none"
or_none text (Some x) = text x

-- what says which delivery a transfer is of
abbrev pub delivery_text : Transfer → List ℕ
delivery_text h =
    codes "transfer handle=" ++ decimal h.handle
    ++ codes " id=" ++ or_none decimal h.delivery_id
    ++ codes " tag=" ++ or_none tag_text h.delivery_tag
    ++ codes " format=" ++ or_none decimal h.message_format
    ++ codes " settled=" ++ or_none truth h.settled

abbrev pub flags_text : Transfer → List ℕ
flags_text h =
    codes " more=" ++ truth h.more
    ++ codes " state=" ++ or_none state_text h.state
    ++ codes " resume=" ++ truth h.resume
    ++ codes " aborted=" ++ truth h.aborted
    ++ codes " batchable=" ++ truth h.batchable

abbrev pub transfer_text : Transfer → List ℕ
transfer_text h = delivery_text h ++ flags_text h

abbrev pub disposition_text : Disposition → List ℕ
disposition_text h =
    codes "disposition first=" ++ decimal h.first
    ++ codes " settled=" ++ truth h.settled
    ++ codes " state=" ++ or_none state_text h.state
    ++ codes " batchable=" ++ truth h.batchable

abbrev pub header_text : Header → List ℕ
header_text (header.Transfer h) = transfer_text h
header_text (header.Disposition h) = disposition_text h

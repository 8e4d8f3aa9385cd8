-- What is printed of a record.
use Rattle.std.specs.Prelude.{ℕ, List, ◌++◌, length, codes, decimal}
use Rattle.amqp.specs.declared.header.FrameKind.{FrameKind}
use Rattle.amqp.specs.declared.header.FrameKind.TheVariants.{First, Continuation, Disposition}
use Rattle.headers_text.specs.Shows.{header_text}
use Rattle.sink.specs.Frames.{Frame}

abbrev pub kind_text : FrameKind → List ℕ
kind_text First = codes "first"
kind_text Continuation = codes "continuation"
kind_text Disposition = codes "disposition"

-- the kind, the handle, how long the payload is, and the header
abbrev pub line_text : Frame → List ℕ
line_text f =
    kind_text f.kind
    ++ codes ", handle " ++ decimal f.handle
    ++ codes ", " ++ decimal (length f.payload)
    ++ codes " bytes: " ++ header_text f.header

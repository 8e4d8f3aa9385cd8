-- The bytes of a frame's record.
use Rattle.std.specs.Prelude.{ℕ, ◌+◌, List, ◌++◌, length}
use Rattle.std.specs.Int.{w16, w32, to_le_bytes}
use Rattle.std.specs.List.{flat_map}
use Rattle.amqp.specs.declared.header.FrameKind.{FrameKind}
use Rattle.amqp.specs.declared.header.FrameKind.TheVariants.{First, Continuation, Disposition}
use Rattle.codec.specs.Headers.{compact_bytes}
use Rattle.sink.specs.Frames.{Frame}

abbrev pub code_of : FrameKind → ℕ
code_of First = 1
code_of Continuation = 2
code_of Disposition = 3

-- the length of the rest, the kind, the handle and the header's length, the lowest bytes first
abbrev pub front_of : (rest code handle size : ℕ) → List ℕ
front_of rest code handle size = to_le_bytes w32 rest ++ (to_le_bytes w16 code ++ (to_le_bytes w32 handle ++ to_le_bytes w16 size))

abbrev pub record_with : FrameKind → (handle : ℕ) → (header payload : List ℕ) → List ℕ
record_with kind handle header payload =
    front_of (8 + length header + length payload) (code_of kind) handle (length header) ++ (header ++ payload)

abbrev pub record_of : Frame → List ℕ
record_of f = record_with f.kind f.handle (compact_bytes f.header) f.payload

-- records laid end to end
abbrev pub records : List Frame → List ℕ
records fs = flat_map record_of fs

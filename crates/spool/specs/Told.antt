-- What the code answers of the bytes that it borrows.
use Rattle.std.specs.Prelude.{ℕ, List, Ok, Err, Result}
use Rattle.std.specs.Borrow.{Bor}
use Rattle.codec.specs.declared.error.ReadError.{ReadError}
use Rattle.sink.specs.declared.frame.Frame.{Frame as Given}
use Rattle.sink.specs.Frames.{Frame, waiting_of}

abbrev pub spelled : Result (Bor (List ℕ)) ReadError → Result (List ℕ) ReadError
spelled (Ok b) = Ok b.now
spelled (Err e) = Err e

abbrev pub told : Result (Given × ℕ) ReadError → Result (Frame × ℕ) ReadError
told (Ok r) = Ok (waiting_of r.0, r.1)
told (Err e) = Err e

-- Forms of headers by their numbers, and a header that is meant.
use Rattle.std.specs.Prelude.{ℕ, cond, List, Some, None, Option, Result, ◌==◌}
use Rattle.amqp.specs.declared.header.Header.{Header}
use Rattle.amqp.specs.declared.header.Header.TheVariants.{Transfer}
use Rattle.codec.specs.Headers.{compact_bytes, wide_bytes}
use Rattle.codec.specs.declared.error.ReadError.{ReadError}
use Rattle.reader.specs.Compact.{compact_reading}
use Rattle.reader.specs.Wide.{wide_reading}
use Rattle.reader.specs.Headers.{read_of}
use Rattle.embed.specs.Fields.{given}
use Rattle.embed.specs.Transfers.{transfer_of}
use Rattle.embed.specs.declared.form.Form.{Form}
use Rattle.embed.specs.declared.form.Form.TheVariants.{Compact, Wide}
use Rattle.embed.specs.declared.transfer.CTransfer.{CTransfer}

abbrev pub form_of : ℕ → Option Form
form_of n = cond (n == 0) (Some Compact) (cond (n == 1) (Some Wide) None)

abbrev pub bytes_in : Form → Header → List ℕ
bytes_in Compact h = compact_bytes h
bytes_in Wide h = wide_bytes h

abbrev pub read_in : Form → List ℕ → Result Header ReadError
read_in Compact bytes = read_of compact_reading bytes
read_in Wide bytes = read_of wide_reading bytes

-- the form and the header that are meant, if there are such
abbrev pub header_in : ℕ → CTransfer → Option (Form × Header)
header_in form t = given (form_of form) (λ f. given (transfer_of t) (λ h. Some (f, Transfer h)))

-- What the exports answer, by the library's own definitions.
use Rattle.std.specs.Prelude.{ℕ, cond, List, length, Some, None, Option, Ok, Err, Result, nat_lt}
use Rattle.amqp.specs.declared.header.Header.{Header}
use Rattle.amqp.specs.declared.header.Header.TheVariants.{Transfer, Disposition}
use Rattle.codec.specs.Written.{after_write}
use Rattle.codec.specs.declared.error.ReadError.{ReadError}
use Rattle.codec.specs.declared.error.ReadError.TheVariants.{NotEncoded}
use Rattle.sections.specs.Sections.{start_of}
use Rattle.embed.specs.Answers.{done, refused}
use Rattle.embed.specs.Forms.{form_of, bytes_in, read_in}
use Rattle.embed.specs.Transfers.{c_transfer}
use Rattle.embed.specs.declared.answer.Answer.{Answer}
use Rattle.embed.specs.declared.form.Form.{Form}
use Rattle.embed.specs.declared.transfer.CTransfer.{CTransfer}

abbrev pub size_answer : Option (Form × Header) → Answer
size_answer None = refused 64 0
size_answer (Some h) = done (length (bytes_in h.0 h.1))

abbrev pub write_answer : Option (Form × Header) → List ℕ → Answer
write_answer None old = refused 64 0
write_answer (Some h) old =
    let size = length (bytes_in h.0 h.1) in
    cond (nat_lt (length old) size) (refused 20 size) (done size)

abbrev pub write_after : Option (Form × Header) → List ℕ → List ℕ
write_after None old = old
write_after (Some h) old = after_write (bytes_in h.0 h.1) old

-- what reading comes to, of so many bytes
abbrev pub read_as : ℕ → Result Header ReadError → Answer
read_as size (Ok (Transfer t)) = done size
read_as size (Ok (Disposition d)) = refused 64 0
read_as size (Err (NotEncoded at)) = refused 18 at

abbrev pub read_answer : ℕ → List ℕ → Answer
read_answer form bytes = read_by (form_of form) bytes
  where
    read_by : Option Form → List ℕ → Answer
    read_by None bytes = refused 64 0
    read_by (Some f) bytes = read_as (length bytes) (read_in f bytes)

abbrev pub read_into : Result Header ReadError → CTransfer → CTransfer
read_into (Ok (Transfer t)) old = c_transfer t
read_into (Ok (Disposition d)) old = old
read_into (Err e) old = old

abbrev pub read_after : ℕ → List ℕ → CTransfer → CTransfer
read_after form bytes old = read_by (form_of form) bytes old
  where
    read_by : Option Form → List ℕ → CTransfer → CTransfer
    read_by None bytes old = old
    read_by (Some f) bytes old = read_into (read_in f bytes) old

abbrev pub place_answer : List ℕ → ℕ → ℕ → Answer
place_answer message section offset =
    found (start_of message (record { section_number = section; section_offset = offset }))
  where
    found : Option ℕ → Answer
    found None = refused 65 0
    found (Some i) = done i

-- The bytes of the encoder that was chosen, and its law.
use Rattle.std.specs.Prelude.{ℕ, List}
use Rattle.amqp.specs.declared.header.Header.{Header}
use Rattle.amqp.specs.declared.header.Transfer.{Transfer}
use Rattle.amqp.specs.Headers.{Widest}
use Rattle.codec.specs.Compact.{compact_form}
use Rattle.codec.specs.Forms.{compact_lawful, wide_lawful}
use Rattle.codec.specs.Headers.{compact_bytes, wide_bytes}
use Rattle.codec.specs.Longer
use Rattle.codec.specs.Wide.{wide_form}
use Rattle.scenario_text.specs.declared.command.EncoderForm.{EncoderForm}
use Rattle.scenario_text.specs.declared.command.EncoderForm.TheVariants.{Compact, Wide}

abbrev pub bytes_of : EncoderForm → Header → List ℕ
bytes_of Compact h = compact_bytes h
bytes_of Wide h = wide_bytes h

abbrev pub widest_of : (f : EncoderForm) (h : Transfer) → Widest (bytes_of f) h
widest_of Compact h = Longer.widest compact_form compact_lawful.sizes h
widest_of Wide h = Longer.widest wide_form wide_lawful.sizes h

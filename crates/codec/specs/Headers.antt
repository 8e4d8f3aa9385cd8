-- The bytes of a header in each form, and what they mean.
use Rattle.std.specs.Prelude.{◌≡◌, ℕ, ◌≤◌, Bool, true, false, List, length, Some, None}
use Rattle.amqp.specs.Headers.{measured}
use Rattle.amqp.specs.Tags.{tag_bytes}
use Rattle.amqp.specs.declared.tag.DeliveryTag.{DeliveryTag}
use Rattle.amqp.specs.declared.header.Transfer.{Transfer}
use Rattle.amqp.specs.declared.header.Header.{Header}
use Rattle.codec.specs.Amqp.{Means}
use Rattle.codec.specs.Form.{Form, encoded}
use Rattle.codec.specs.Compact.{compact_form}
use Rattle.codec.specs.Wide.{wide_form}
use Rattle.codec.specs.Values.{header_value}
use Rattle.codec.specs.Meaning.{trimmed}

abbrev pub header_bytes : Form → Header → List ℕ
header_bytes F h = encoded F (header_value F.terse h)

abbrev pub compact_bytes : Header → List ℕ
compact_bytes h = header_bytes compact_form h

abbrev pub wide_bytes : Header → List ℕ
wide_bytes h = header_bytes wide_form h

-- no header is longer than 255 bytes
abbrev pub AtMost255 : (Header → List ℕ) → Type 0
AtMost255 bytes = (h : Header) → length (bytes h) ≤ 255

-- the bytes mean the header's value, with the nulls at the end of lists left out
abbrev pub MeansHeader : List ℕ → Header → Type 0
MeansHeader bytes h = Means bytes (trimmed (header_value true h))

-- the bytes mean the header's value as it is
abbrev pub MeansWhole : List ℕ → Header → Type 0
MeansWhole bytes h = Means bytes (header_value false h)

-- what the bytes mean in a form that is terse or not
abbrev pub MeansIn : Bool → List ℕ → Header → Type 0
MeansIn true bytes h = MeansHeader bytes h
MeansIn false bytes h = MeansWhole bytes h

-- a new delivery's transfer on handle 0: unsettled, of format 0
abbrev pub plain : DeliveryTag → Transfer
plain tag =
    record {
      handle = 0;
      delivery_id = None;
      delivery_tag = Some tag;
      message_format = Some 0;
      settled = Some false;
      more = false;
      state = None;
      resume = false;
      aborted = false;
      batchable = false;
    }

-- 6 bytes before the fields, and 1 + 5 + 6 + 1 + 1 + 1 of them
abbrev pub PlainMeasures21 : Type 0
PlainMeasures21 = (tag : DeliveryTag) → length (tag_bytes tag) ≡ 4 → measured compact_bytes (plain tag) ≡ 21

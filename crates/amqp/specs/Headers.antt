-- Transfers: those after a delivery's first, and a transfer as it is measured.
use Rattle.std.specs.Prelude.{ℕ, ◌≤◌, Bool, true, List, length, Some, None, Option}
use Rattle.amqp.specs.declared.header.Transfer.{Transfer}
use Rattle.amqp.specs.declared.header.Header.{Header}
use Rattle.amqp.specs.declared.header.Header.TheVariants as header

-- the same transfer with another delivery id and another `more`
abbrev pub with_id_more : Transfer → Option ℕ → Bool → Transfer
with_id_more h id more =
    record {
      handle = h.handle;
      delivery_id = id;
      delivery_tag = h.delivery_tag;
      message_format = h.message_format;
      settled = h.settled;
      more = more;
      state = h.state;
      resume = h.resume;
      aborted = h.aborted;
      batchable = h.batchable;
    }

-- a continuation lacks id, tag, format, settled and state
abbrev pub continuation_of : Transfer → Transfer
continuation_of h =
    record {
      handle = h.handle;
      delivery_id = None;
      delivery_tag = None;
      message_format = None;
      settled = None;
      more = h.more;
      state = None;
      resume = h.resume;
      aborted = h.aborted;
      batchable = h.batchable;
    }

-- with the widest delivery id, and `more` set: the longest that a delivery's transfers get
abbrev pub widened : Transfer → Transfer
widened h = with_id_more h (Some 4294967295) true

-- the size of a transfer as it is measured, by an encoder that gives these bytes
abbrev pub measured : (Header → List ℕ) → Transfer → ℕ
measured bytes h = length (bytes (header.Transfer (widened h)))

-- an encoder's law for one transfer: measured, it is as long as with any id and either `more`, also as a continuation
pub record Widest (bytes : Header → List ℕ) (h : Transfer) : Type 0 where
  pub first : (id : Option ℕ) (more : Bool) → length (bytes (header.Transfer (with_id_more h id more))) ≤ measured bytes h
  pub later : (id : Option ℕ) (more : Bool) → length (bytes (header.Transfer (with_id_more (continuation_of h) id more))) ≤ measured bytes h

-- Transfers as C has them.
use Rattle.std.specs.Prelude.{ℕ, cond, List, ◌++◌, length, take, drop, replicate, Some, None, Option, is_some, nat_lt}
use Rattle.std.specs.Option.{unwrap_or}
use Rattle.amqp.specs.Tags.{tag_bytes, tag_within}
use Rattle.amqp.specs.declared.tag.DeliveryTag.{DeliveryTag}
use Rattle.amqp.specs.declared.header.Transfer.{Transfer}
use Rattle.embed.specs.Fields.{given, yes, present, mark_of, mark_number, truth_number}
use Rattle.embed.specs.States.{state_of, c_state}
use Rattle.embed.specs.declared.transfer.CTransfer.{CTransfer}

-- the tag that the fields hold, if they hold one or none
abbrev pub tag_in : CTransfer → Option (Option DeliveryTag)
tag_in t =
    cond (yes t.has_tag)
    (cond (nat_lt 32 t.tag_len) None (given (tag_within (take t.tag_len t.tag)) (λ tag. Some (Some tag))))
    (Some None)

-- the transfer that the fields hold, if they hold one
abbrev pub transfer_of : CTransfer → Option Transfer
transfer_of t =
    given (tag_in t) (λ tag. given (mark_of t.settled) (λ settled. given (state_of t.state) (λ state.
    Some (record {
      handle = t.handle;
      delivery_id = present t.has_delivery_id t.delivery_id;
      delivery_tag = tag;
      message_format = present t.has_message_format t.message_format;
      settled = settled;
      more = yes t.more;
      state = state;
      resume = yes t.resume;
      aborted = yes t.aborted;
      batchable = yes t.batchable;
    }))))

-- a tag's bytes, written over zeros
abbrev pub c_tag : Option DeliveryTag → List ℕ
c_tag None = replicate 32 0
c_tag (Some tag) = tag_bytes tag ++ drop (length (tag_bytes tag)) (replicate 32 0)

abbrev pub c_tag_len : Option DeliveryTag → ℕ
c_tag_len None = 0
c_tag_len (Some tag) = length (tag_bytes tag)

-- a transfer's fields: those that are absent are 0
abbrev pub c_transfer : Transfer → CTransfer
c_transfer t =
    record {
      handle = t.handle;
      delivery_id = unwrap_or t.delivery_id 0;
      message_format = unwrap_or t.message_format 0;
      has_delivery_id = truth_number (is_some t.delivery_id);
      has_tag = truth_number (is_some t.delivery_tag);
      has_message_format = truth_number (is_some t.message_format);
      settled = mark_number t.settled;
      more = truth_number t.more;
      resume = truth_number t.resume;
      aborted = truth_number t.aborted;
      batchable = truth_number t.batchable;
      tag_len = c_tag_len t.delivery_tag;
      tag = c_tag t.delivery_tag;
      state = c_state t.state;
    }

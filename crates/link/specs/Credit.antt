-- Link credit (Part 2, 2.6.7).
use Rattle.std.specs.Prelude.{ℕ, ◌+◌, ◌-◌, ◌%◌, ◌^◌, min, Bool, true, false, cond, ◌||◌, Some, None, Option}
use Rattle.std.specs.Option.{unwrap_or}
use Rattle.link.specs.declared.flow.LinkFlow.{LinkFlow}
use Rattle.link.specs.declared.flow.LinkFlowState.{LinkFlowState}

-- the same count's link with another count and credit
abbrev pub counting_on : (count credit : ℕ) → LinkFlowState → LinkFlowState
counting_on count credit f = record { initial_delivery_count = f.initial_delivery_count; delivery_count = count; link_credit = credit }

-- as a link is made
abbrev pub uncredited : ℕ → LinkFlowState
uncredited initial = record { initial_delivery_count = initial; delivery_count = initial; link_credit = 0 }

abbrev pub consumed : LinkFlowState → LinkFlowState
consumed f = counting_on ((f.delivery_count + 1) % 2 ^ 32) (f.link_credit - 1) f

-- the credit that a flow leaves: what the peer's count and credit come to, capped at 2^32 − 1, less our count; without
-- a credit it stays
abbrev pub credit_after : Option ℕ → Option ℕ → LinkFlowState → ℕ
credit_after None count f = f.link_credit
credit_after (Some credit) count f = min (unwrap_or count f.initial_delivery_count + credit) 4294967295 - f.delivery_count

-- a drain adds the credit to the count
abbrev pub drained : Bool → (credit : ℕ) → LinkFlowState → LinkFlowState
drained true credit f = counting_on ((f.delivery_count + credit) % 2 ^ 32) 0 f
drained false credit f = counting_on f.delivery_count credit f

abbrev pub flowed : LinkFlow → LinkFlowState → LinkFlowState
flowed i f = drained i.drain (credit_after i.link_credit i.delivery_count f) f

abbrev pub told_in : Option ℕ → Bool → LinkFlowState → LinkFlow
told_in handle drain f =
    record {
      handle = handle;
      delivery_count = Some f.delivery_count;
      link_credit = Some f.link_credit;
      available = Some 0;
      drain = drain;
      echo = false;
    }

-- a drain is answered, and else an echo, with what holds then
abbrev pub flow_answer : LinkFlow → Option ℕ → LinkFlowState → Option LinkFlow
flow_answer i handle f = cond (i.drain || i.echo) (Some (told_in handle i.drain f)) None

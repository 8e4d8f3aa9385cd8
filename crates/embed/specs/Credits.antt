-- Credit as C has it, after a flow.
use Rattle.std.specs.Prelude.{Bool, ◌||◌, None}
use Rattle.link.specs.Credit.{flowed}
use Rattle.link.specs.declared.flow.LinkFlow.{LinkFlow}
use Rattle.link.specs.declared.flow.LinkFlowState.{LinkFlowState}
use Rattle.embed.specs.Fields.{yes, present}
use Rattle.embed.specs.declared.credit.CCredit.{CCredit}
use Rattle.embed.specs.declared.credit.CFlow.{CFlow}

abbrev pub flow_of : CFlow → LinkFlow
flow_of f =
    record {
      handle = None;
      delivery_count = present f.has_delivery_count f.delivery_count;
      link_credit = present f.has_link_credit f.link_credit;
      available = None;
      drain = yes f.drain;
      echo = yes f.echo;
    }

abbrev pub credit_of : CCredit → LinkFlowState
credit_of c =
    record {
      initial_delivery_count = c.initial_delivery_count;
      delivery_count = c.delivery_count;
      link_credit = c.link_credit;
    }

abbrev pub c_credit : LinkFlowState → CCredit
c_credit s =
    record {
      initial_delivery_count = s.initial_delivery_count;
      delivery_count = s.delivery_count;
      link_credit = s.link_credit;
    }

-- what holds after a flow
abbrev pub credited : CFlow → CCredit → CCredit
credited f c = c_credit (flowed (flow_of f) (credit_of c))

-- a drain is answered, and an echo
abbrev pub is_answered : CFlow → Bool
is_answered f = yes f.drain || yes f.echo

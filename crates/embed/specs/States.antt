-- Delivery states as C has them.
use Rattle.std.specs.Prelude.{ℕ, cond, Some, None, Option, ◌==◌}
use Rattle.amqp.specs.Texts.{condition_in}
use Rattle.amqp.specs.declared.state.DeliveryState.{DeliveryState}
use Rattle.amqp.specs.declared.state.DeliveryState.TheVariants.{Received, Accepted, Rejected, Released, Modified}
use Rattle.embed.specs.Fields.{given, condition_of, mark_of, mark_number}
use Rattle.embed.specs.declared.state.CState.{CState}

-- the state that the fields hold, if they hold one or none: the code decides which of them count
abbrev pub state_of : CState → Option (Option DeliveryState)
state_of s =
    cond (s.code == 0) (Some None)
    (cond (s.code == 0x23) (Some (Some (Received (record { section_number = s.section_number; section_offset = s.section_offset }))))
    (cond (s.code == 0x24) (Some (Some Accepted))
    (cond (s.code == 0x25) (given (condition_of s.condition) (λ c. Some (Some (Rejected c))))
    (cond (s.code == 0x26) (Some (Some Released))
    (cond (s.code == 0x27) (given (mark_of s.delivery_failed) (λ f. given (mark_of s.undeliverable_here) (λ u. Some (Some (Modified f u)))))
    None)))))

abbrev pub bare : ℕ → CState
bare code =
    record {
      code = code;
      condition = 0;
      delivery_failed = 0;
      undeliverable_here = 0;
      section_number = 0;
      section_offset = 0;
    }

-- a state's fields: those that do not count are 0
abbrev pub c_state : Option DeliveryState → CState
c_state None = bare 0
c_state (Some (Received p)) =
    record {
      code = 0x23;
      condition = 0;
      delivery_failed = 0;
      undeliverable_here = 0;
      section_number = p.section_number;
      section_offset = p.section_offset;
    }
c_state (Some Accepted) = bare 0x24
c_state (Some (Rejected c)) =
    record {
      code = 0x25;
      condition = condition_in c;
      delivery_failed = 0;
      undeliverable_here = 0;
      section_number = 0;
      section_offset = 0;
    }
c_state (Some Released) = bare 0x26
c_state (Some (Modified f u)) =
    record {
      code = 0x27;
      condition = 0;
      delivery_failed = mark_number f;
      undeliverable_here = mark_number u;
      section_number = 0;
      section_offset = 0;
    }

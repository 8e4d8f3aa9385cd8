use Rattle.scenario_text.proofs.States.{undivided_place, no_section, no_offset, place_read}
use Rattle.scenario_text.proofs.state.read_received.Goals as goal

pub returns-in_err-section : goal.returns-in_err-section
returns-in_err-section c =
    rw c.from_residual-in_err-section.ensures (undivided_place c.args.text.now c.in_ok-inside.field-0.now c.in_ok-inside.ensures c.in_err-section.ensures)

pub returns-in_err-read_u32 : goal.returns-in_err-read_u32
returns-in_err-read_u32 c =
    rw c.from_residual-in_err-read_u32.ensures (no_section c.args.text.now c.in_ok-inside.field-0.now c.in_ok-section.section.now c.in_ok-section.offset.now c.in_ok-inside.ensures c.in_ok-section.ensures.0 c.in_ok-section.ensures.1 c.in_err-read_u32.ensures)

pub returns-in_err-read_number : goal.returns-in_err-read_number
returns-in_err-read_number c =
    rw c.from_residual-in_err-read_number.ensures (no_offset c.args.text.now c.in_ok-inside.field-0.now c.in_ok-section.section.now c.in_ok-section.offset.now c.in_ok-inside.ensures c.in_ok-section.ensures.0 c.in_ok-section.ensures.1 c.in_err-read_number.ensures)

pub returns : goal.returns
returns c = place_read c.args.text.now c.in_ok-inside.field-0.now c.in_ok-section.section.now c.in_ok-section.offset.now _ _ c.in_ok-inside.ensures c.in_ok-section.ensures.0 c.in_ok-section.ensures.1 c.in_ok-read_u32.ensures c.in_ok-read_number.ensures

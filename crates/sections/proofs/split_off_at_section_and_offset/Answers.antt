use Rattle.std.proofs.Common.{◌∙◌}
use Rattle.sections.proofs.Places.{Numbered, too_far, crossed, uncrossed}
use Rattle.sections.proofs.Positions.{nowhere, here, the_only}
use Rattle.sections.proofs.split_off_at_section_and_offset.Goals as goal

pub returns-in_err-start-clause-value : goal.returns-in_err-start-clause-value
returns-in_err-start-clause-value c =
    c.from_residual.ensures
    ∙ nowhere c.args.message.now c.args.place.now (λ i at. c.in_err-start.ensures at.start at.begins at.number)

-- no position is past the message's end
pub returns-then-place-most-clause-one : goal.returns-then-place-most-clause-one
returns-then-place-most-clause-one c =
    let e = c.in_ok-start.ensures in
    too_far c.args.message.now c.args.place.now c.in_ok-start.start (record { inside = e.0; begins = e.1; number = e.2 }) c.if-place-most.true

pub returns-then-place-most-clause-value : goal.returns-then-place-most-clause-value
returns-then-place-most-clause-value c = nowhere c.args.message.now c.args.place.now (returns-then-place-most-clause-one c)

-- nor past another section's beginning
pub returns-in-Some-clause-one : goal.returns-in-Some-clause-one
returns-in-Some-clause-one c =
    let e = c.in_ok-start.ensures in
    let n = c.in-Some.ensures in
    crossed c.args.message.now c.args.place.now c.in_ok-start.start c.in-Some.field-0 (record { inside = e.0; begins = e.1; number = e.2 }) c.if-place-most.false n.0 n.1 n.2

pub returns-in-Some-clause-value : goal.returns-in-Some-clause-value
returns-in-Some-clause-value c = nowhere c.args.message.now c.args.place.now (returns-in-Some-clause-one c)

pub returns-in-None-clause-one : goal.returns-in-None-clause-one
returns-in-None-clause-one c =
    let e = c.in_ok-start.ensures in
    let s : Numbered c.args.message.now c.args.place.now c.in_ok-start.start = record { inside = e.0; begins = e.1; number = e.2 } in
    the_only c.args.message.now c.args.place.now _ (uncrossed c.args.message.now c.args.place.now c.in_ok-start.start s c.if-place-most.false c.in-None.ensures)

pub returns-in-None-clause-value : goal.returns-in-None-clause-value
returns-in-None-clause-value c = here c.args.message.now c.args.place.now _ (returns-in-None-clause-one c).0

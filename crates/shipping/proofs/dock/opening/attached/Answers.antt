use Rattle.std.proofs.Common.{ap, ◌∙◌}
use Rattle.link.specs.declared.settings.Settings.{Settings}
use Rattle.link.specs.Views.{fresh}
use Rattle.memory.specs.Sizes.{rooms_in, seats_in}
use Rattle.shipping.proofs.Attaches.{new_link}
use Rattle.shipping.proofs.dock.opening.attached.Goals as goal

pub returns : goal.returns
returns c =
    let rooms = rooms_in c.args.memory.now in
    let seats = seats_in c.args.memory.now in
    let new = new_link c.settings_for.result rooms seats _ _ _ _ c.link.ensures.link c.map_err.ensures.cases c.map_err.ensures.variant c.in_ok-link.was in
    let is = new.1 ∙ ap (λ (s : Settings). fresh s 0 rooms seats) c.settings_for.ensures in
    (new.0, rw c.in_ok-attach_ends.was at (c.attach_ends.ensures c.args.max_frame_size seats rooms is))

pub returns-in_err-attach_ends : goal.returns-in_err-attach_ends
returns-in_err-attach_ends c =
    let rooms = rooms_in c.args.memory.now in
    let seats = seats_in c.args.memory.now in
    let new = new_link c.settings_for.result rooms seats _ _ _ _ c.link.ensures.link c.map_err.ensures.cases c.map_err.ensures.variant c.in_ok-link.was in
    let is = new.1 ∙ ap (λ (s : Settings). fresh s 0 rooms seats) c.settings_for.ensures in
    absurd (rw c.in_err-attach_ends.was at (c.attach_ends.ensures c.args.max_frame_size seats rooms is))

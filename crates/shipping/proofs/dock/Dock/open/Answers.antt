use Rattle.std.proofs.Common.{◌≡◌, ℕ, ◌^◌, ◌<◌, max, ap, ◌∙◌}
use Rattle.sink.specs.Frames.{empty}
use Rattle.memory.specs.Sizes.{rooms_in, seats_in}
use Rattle.shipping.specs.Openings.{frame_cap, opened}
use Rattle.shipping.proofs.Attaches.{credited, at_rest}
use Rattle.shipping.proofs.dock.Dock.open.Goals as goal

pub returns : goal.returns
returns g c =
    let made = c.in_ok-attached.ensures in
    let small : c.args.credit < 2 ^ 32 = c.ranges.credit.fits in
    let link = credited _ c.args.credit _ _ _ _ _ made.1 c.new-2.ensures small c.grant.ensures.link in
    let sink = c.grant.ensures.sink ∙ c.in_ok-with_places.ensures in
    let cap : c.min-frame.result ≡ frame_cap c.args.frame = c.min-frame.ensures in
    let wide : c.max-widest.result ≡ max (frame_cap c.args.frame) 1 = c.max-widest.ensures ∙ ap (λ (n : ℕ). max n 1) cap in
    record {
      link = link ∙ ap (λ (n : ℕ). opened n c.args.credit (rooms_in c.args.memory.now) (seats_in c.args.memory.now)) cap;
      sink = sink ∙ ap (λ (n : ℕ). empty 16 n) wide;
      rest = at_rest _ _ _ _ _ _ _ _ link sink made.0;
    }

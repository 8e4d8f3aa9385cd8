use Rattle.std.proofs.Common.{◌≡◌, map}
use Rattle.scenario_text.specs.Commands.{pair_text}
use Rattle.scenario_text.specs.Lists.{listed}
use Rattle.scenario_text.proofs.peers.PeerList.add_all.Given as goal

-- the pairs so far are those of the parts so far
abbrev pub invariant-loop-part : goal.invariant-loop-part
invariant-loop-part l = map pair_text (listed l.self) ≡ map (λ x. x.now) l.yielded

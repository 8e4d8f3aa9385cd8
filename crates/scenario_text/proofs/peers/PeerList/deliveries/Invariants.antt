use Rattle.std.proofs.Common.{◌≡◌, map, take}
use Rattle.scenario_text.specs.Lists.{pair_of, delivered}
use Rattle.scenario_text.proofs.peers.PeerList.deliveries.Given as goal

abbrev pub invariant-loop-pair : goal.invariant-loop-pair
invariant-loop-pair l = map delivered l.deliveries.items ≡ map pair_of (take l.pair-index l.self.pairs.items)

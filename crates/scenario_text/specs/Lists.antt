-- The pairs of a peer's list.
use Rattle.std.specs.Prelude.{List, map}
use Rattle.unsettled.specs.declared.peer.PeerDelivery.{PeerDelivery}
use Rattle.scenario_text.specs.declared.peers.PeerList.{PeerList}
use Rattle.scenario_text.specs.declared.peers.PeerPair.{PeerPair}
use Rattle.scenario_text.specs.Commands.{Pair}

abbrev pub pair_of : PeerPair → Pair
pair_of p = (p.tag.items, p.state)

abbrev pub listed : PeerList → List Pair
listed l = map pair_of l.pairs.items

-- the pair that an attach has
abbrev pub delivered : PeerDelivery → Pair
delivered d = (d.tag.now, d.state)

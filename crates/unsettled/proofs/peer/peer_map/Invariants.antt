use Rattle.std.proofs.Common.{◌≡◌, [], length, take, fold}
use Rattle.unsettled.specs.Tables.{held, room}
use Rattle.unsettled.specs.Peers.{with_pair}
use Rattle.unsettled.proofs.peer.peer_map.Given as goal

abbrev pub invariant-loop-pair : goal.invariant-loop-pair
invariant-loop-pair l =
    record {
      holds : held l.map ≡ fold (with_pair (room l.map)) [] (take l.pair-index l.pairs);
      room : room l.map ≡ length l.fn.slots;
    }

use Rattle.std.proofs.Common.{◌≡◌, ◌+◌, ◌≤◌, ◌++◌, length, take}
use Rattle.std.specs.List.{flat_map}
use Rattle.link.specs.Seats.{seated}
use Rattle.link.specs.Turns.{tell_all}
use Rattle.unsettled.specs.Peers.{peers_of}
use Rattle.unsettled.specs.Worklists.{items, space}
use Rattle.sender.specs.Attaches.{item_by, end_by}
use Rattle.sender.proofs.sender_link.attach.resume_by_search.Given as goal

abbrev pub invariant-loop-slot : goal.invariant-loop-slot
invariant-loop-slot l =
    record {
      listed : items l.resume ≡ items l.fn.resume ++ flat_map (item_by (peers_of l.pairs)) (take l.slot-index l.slots);
      space : space l.resume ≡ space l.fn.resume;
      few : length (items l.resume) ≤ length (items l.fn.resume) + l.slot-index;
      told : seated l.seats ≡ tell_all (flat_map (end_by (peers_of l.pairs)) (take l.slot-index l.slots)) (seated l.fn.seats);
    }

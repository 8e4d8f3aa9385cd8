use Rattle.std.proofs.Common.{◌≡◌, [], length}
use Rattle.shipping.proofs.Room.{hunger}
use Rattle.shipping.proofs.dock.Dock.send_in_room.Given as goal

-- the link waits while the sink gets room; what was empty stays so, and then the archive takes in nothing
abbrev pub invariant-loop-settlement : goal.invariant-loop-settlement
invariant-loop-settlement g l =
    (l.self.link ≡ l.initial.self.link)
    × (l.self.credit ≡ l.initial.self.credit)
    × (l.initial.self.sink.waiting ≡ [] → l.self.sink.waiting ≡ [])
    × (l.self.sink.widest ≡ l.initial.self.sink.widest)
    × (l.self.sink.stopped ≡ l.initial.self.sink.stopped)
    × (l.initial.self.sink.waiting ≡ [] → l.self.archive ≡ l.initial.self.archive)

abbrev pub decreases-loop-settlement : goal.decreases-loop-settlement
decreases-loop-settlement g l = hunger (length l.message) l.self.sink

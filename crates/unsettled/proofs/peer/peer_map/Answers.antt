use Rattle.std.proofs.Common.{[], length, take, fold, ap, ◌∙◌, arith}
use Rattle.std.proofs.lemmas.List.{take_all}
use Rattle.unsettled.specs.Peers.{with_pair}
use Rattle.unsettled.proofs.Gathered.{gathered}
use Rattle.unsettled.proofs.peer.peer_map.Goals as goal

pub returns-clause-whole : goal.returns-clause-whole
returns-clause-whole c = λ legal room.
    let ps = c.args.pairs.now in
    let n = length c.args.slots.now in
    let l = c.loop-pair in
    l.invariant.holds
    ∙ ap (λ r. fold (with_pair r) [] (take l.pair-index ps)) l.invariant.room
    ∙ ap (fold (with_pair n) []) (take_all l.pair-index ps (omega (arith, c.loop-pair-test.false)))
    ∙ gathered ps n legal room

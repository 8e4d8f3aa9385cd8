use Rattle.std.proofs.Common.{length, refl, rules, arith}
use Rattle.std.proofs.lemmas.Iterator.{YieldsList-from_range}
use Rattle.std.proofs.lemmas.Iterator.Search.{any_from_yields_List}
use Rattle.unsettled.specs.Peers.{illegal_at}
use Rattle.unsettled.proofs.Legal.{legal_decides}
use Rattle.unsettled.proofs.peer.is_any_illegal.Goals as goal

pub returns-clause-legal : goal.returns-clause-legal
returns-clause-legal c =
    let ps = c.args.pairs.now in
    legal_decides ps c.any.result
    (any_from_yields_List (illegal_at ps) _ _ _ c.any.ensures.ran (YieldsList-from_range 0 (length ps) (length ps) refl (omega arith)) (λ x b q k. search rules))

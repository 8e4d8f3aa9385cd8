use Rattle.std.proofs.Common.{rules, sym}
use Rattle.std.proofs.lemmas.Iterator.{YieldsList-from_slice}
use Rattle.std.proofs.lemmas.Iterator.Consumers.{YieldsList-from_filter_map, count_from_yields_List}
use Rattle.link.specs.Resuming.{delivery_of}
use Rattle.sender.proofs.sender_link.detach.count_listed.Goals as goal

pub returns : goal.returns
returns c =
    let xs = YieldsList-from_slice {s = c.iter.result} c.args.items.now c.iter.ensures.rest in
    count_from_yields_List _ _ c.count.ensures.ran
    (YieldsList-from_filter_map _ delivery_of (rw (sym c.filter_map.ensures.source) at xs) c.filter_map.ensures.closure (λ x r q k. search rules))

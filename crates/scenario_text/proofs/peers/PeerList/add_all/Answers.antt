use Rattle.std.proofs.Common.{◌∙◌, lit<}
use Rattle.std.proofs.lemmas.Iterator.Consumers.{YieldsList-end}
use Rattle.std.proofs.lemmas.Iterator.Splits.{YieldsList-from_str_split}
use Rattle.scenario_text.specs.Lists.{listed}
use Rattle.scenario_text.proofs.Lists.{added_more, added_all}
use Rattle.scenario_text.proofs.peers.PeerList.add_all.Goals as goal

pub loop-part-preserved : goal.loop-part-preserved
loop-part-preserved c =
    added_more c.loop-part.yielded c.in-Some.part (listed c.loop-part.self) (listed c.add.new.self) c.loop-part.invariant c.in_ok-add.ensures

pub returns : goal.returns
returns c =
    let i = c.into_iter-part-iterator.ensures.into_iter_gives in
    let t = c.split-part-items.ensures.text in
    let m = c.split-part-items.ensures.has_more in
    let p = c.split-part-items.ensures.pattern in
    let all = YieldsList-from_str_split {s = c.into_iter-part-iterator.result} 59 c.args.text.now (lit< tt) (cc) (cc) (cc) in
    let whole = YieldsList-end all c.loop-part.yielded _ c.loop-part.yielded_by _ _ c.in-None.is c.next.ensures.steps in
    added_all c.args.text.now (listed c.loop-part.self) (c.loop-part.invariant ∙ whole.0)

use Rattle.unsettled.specs.Indexes.{keys_of}
use Rattle.unsettled.proofs.Threads.{stopped}
use Rattle.unsettled.proofs.index.Index.before.Goals as goal

pub returns : goal.returns
returns c =
    let l = c.loop-at in
    stopped (keys_of c.args.self.now) c.args.bucket l.at c.args.place l.last l.invariant.before l.invariant.within c.loop-at-test.false

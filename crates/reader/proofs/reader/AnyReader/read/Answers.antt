use Rattle.std.proofs.Common.{arith}
use Rattle.reader.specs.Faults.{placed, other_kind}
use Rattle.reader.specs.Missing.{missing_code}
use Rattle.reader.specs.Sizes.{wrong_size}
use Rattle.reader.specs.Whole.{exact}
use Rattle.reader.proofs.reader.AnyReader.read.Goals as goal

pub returns-clause-exact : goal.returns-clause-exact
returns-clause-exact g c = rw c.whole.ensures (exact g.P.Parse.reading g.met.P.Parse.lawful c.args.bytes.now)

pub returns-clause-placed : goal.returns-clause-placed
returns-clause-placed g c = rw c.whole.ensures (placed g.P.Parse.reading g.met.P.Parse.lawful g.met.P.Parse.steady c.args.bytes.now (λ k. (let w = c.type_inv.bytes k in omega arith)))

pub returns-clause-other_kind : goal.returns-clause-other_kind
returns-clause-other_kind g c = rw c.whole.ensures (other_kind g.P.Parse.reading g.met.P.Parse.lawful c.args.bytes.now)

pub returns-clause-missing_code : goal.returns-clause-missing_code
returns-clause-missing_code g c = rw c.whole.ensures (missing_code g.P.Parse.reading g.met.P.Parse.lawful g.met.P.Parse.picky c.args.bytes.now)

pub returns-clause-wrong_size : goal.returns-clause-wrong_size
returns-clause-wrong_size g c =
    rw c.whole.ensures
    (wrong_size g.P.Parse.reading g.met.P.Parse.lawful g.met.P.Parse.picky g.met.P.Parse.sizes (g.P.Encoder.bytes c.args.self.now) (λ h. g.met.P.Parse.writes c.args.self.now h) c.args.bytes.now)

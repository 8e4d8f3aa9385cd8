use Rattle.codec.proofs.Meanings.{header_means}
use Rattle.codec.proofs.header.AnyEncoder.write.Goals as goal

pub returns-clause-meaning : goal.returns-clause-meaning
returns-clause-meaning g c = header_means g.F.Form.form g.met.F.Form.lawful c.args.header.now _ c.encode.ensures

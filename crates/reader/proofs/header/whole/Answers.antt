use Rattle.std.proofs.Common.{replicate, lit≤}
use Rattle.reader.proofs.Compared.{is_written, compared}
use Rattle.reader.proofs.header.whole.Goals as goal

pub unwrap-len-requires : goal.unwrap-len-requires
unwrap-len-requires g c =
    is_written g.P.Parse.reading.form (g.P.Encoder.bytes c.args.form.now) c.in_ok-header.header (g.met.P.Parse.writes c.args.form.now c.in_ok-header.header) (replicate 256 0) _
    (lit≤ tt) c.write.ensures.answer

pub returns : goal.returns
returns g c =
    compared g.P.Parse.reading (g.P.Encoder.bytes c.args.form.now) c.in_ok-header.header (g.met.P.Parse.writes c.args.form.now c.in_ok-header.header) c.args.src.now c.new.result.src.now (replicate 256 0) _ _ _ _ _ _
    (lit≤ tt) c.new.ensures.src c.new.ensures.at c.in_ok-header.ensures.0 c.write.ensures.answer c.write.ensures.after c.unwrap-len.ensures c.only.ensures

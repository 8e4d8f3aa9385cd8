use Rattle.std.proofs.Common.{arith, rules}
use Rattle.std.proofs.Output.{has_written_append, has_written_of_eq}
use Rattle.headers_text.proofs.Pairs.{pairs_more}
use Rattle.headers_text.proofs.show.write_digits.Goals as goal

pub loop-b-preserved : goal.loop-b-preserved
loop-b-preserved g c = λ plain.
    let more = pairs_more c.args.bytes.now c.loop-b.b-index (omega arith) (search rules) in
    has_written_of_eq _ _ _ _ _ more (has_written_append _ _ _ _ _ _ (c.loop-b.invariant plain) (search rules))

use Rattle.std.proofs.Common.{arith, rules}
use Rattle.std.proofs.Output.{has_written_append, has_written_of_eq}
use Rattle.scenario_play.proofs.Spacing.{spaced_more}
use Rattle.scenario_play.proofs.parts.write_spaced.Goals as goal

pub loop-part-preserved : goal.loop-part-preserved
loop-part-preserved g c = λ plain.
    let more = spaced_more g.P.Part.text c.args.parts.now c.loop-part.part-index c.part-item.result (omega arith) c.part-item.is in
    has_written_of_eq _ _ _ _ _ more (has_written_append _ _ _ _ _ _ (c.loop-part.invariant plain) (search rules))

use Rattle.sink.specs.Frames.{waiting_of}
use Rattle.spool.proofs.Fronts.{next_frame, next_place, exact_there}
use Rattle.spool.proofs.record.read.Goals as goal

pub returns-in-Ok-clause-exact : goal.returns-in-Ok-clause-exact
returns-in-Ok-clause-exact c = exact_there c.args.at c.min-at.result c.args.bytes.now c.min-at.ensures (λ i. (c.type_inv.bytes i).fits)

pub returns-in-Ok-clause-frames : goal.returns-in-Ok-clause-frames
returns-in-Ok-clause-frames c = next_frame c.args.at c.min-at.result c.args.bytes.now c.min-at.ensures (waiting_of c.in-Ok.frame) c.in-Ok.size c.in-Ok.ensures.value

pub returns-in-Ok-clause-place : goal.returns-in-Ok-clause-place
returns-in-Ok-clause-place c = next_place c.args.at c.min-at.result c.args.bytes.now c.min-at.ensures (waiting_of c.in-Ok.frame) c.in-Ok.size c.in-Ok.ensures.value

pub returns-in-Err-NotEncoded-clause-exact : goal.returns-in-Err-NotEncoded-clause-exact
returns-in-Err-NotEncoded-clause-exact c = exact_there c.args.at c.min-at.result c.args.bytes.now c.min-at.ensures (λ i. (c.type_inv.bytes i).fits)

use Rattle.std.proofs.Common.{◌<◌, ◌^◌, arith}
use Rattle.std.proofs.lemmas.Result.{IfOk-weaker}
use Rattle.reader.specs.Widths.{width_of}
use Rattle.reader.proofs.Bytes.{wider}
use Rattle.reader.proofs.compact.number.Goals as goal

pub returns-then-code-codes-clause-fits : goal.returns-then-code-codes-clause-fits
returns-then-code-codes-clause-fits c = wider c.args.width 0 (omega arith)

pub returns-then-code-codes-2-clause-fits : goal.returns-then-code-codes-2-clause-fits
returns-then-code-codes-2-clause-fits c = IfOk-weaker c.number_from.result (λ x. x < 256) (λ x. x < 256 ^ width_of c.args.width) (wider c.args.width) c.number_from.ensures.fits

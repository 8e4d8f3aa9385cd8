use Rattle.std.proofs.Common.{arith}
use Rattle.std.proofs.lemmas.List.{length-append}
use Rattle.codec.proofs.compact.plain_transfer_measures_21.Goals as goal

pub returns : goal.returns
returns c = λ tag four. simp length-append (omega arith)

use Rattle.std.proofs.Common.{ℕ, arith}
use Rattle.std.proofs.lemmas.List.{take-replicate}
use Rattle.codec.proofs.body.Body.write_nulls.Goals as goal

pub returns-clause-made : goal.returns-clause-made
returns-clause-made g c = let n = take-replicate {X = ℕ} c.args.self.now.gap 16 0x40 (omega arith) in cc

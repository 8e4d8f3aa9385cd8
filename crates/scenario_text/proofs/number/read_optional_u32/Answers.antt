use Rattle.std.proofs.Common.{codes, sym}
use Rattle.std.proofs.lemmas.Slice.Eq.{bytes_eq-Decides}
use Rattle.scenario_text.proofs.Conditions.{no_number}
use Rattle.scenario_text.proofs.number.read_optional_u32.Goals as goal

pub returns-then-eq : goal.returns-then-eq
returns-then-eq c = no_number c.args.text.now ((bytes_eq-Decides c.args.text.now (codes "none")).0 (sym c.if-eq.ensures))

use Rattle.std.proofs.Common.{codes, sym}
use Rattle.std.proofs.lemmas.Slice.Eq.{bytes_eq-Decides}
use Rattle.scenario_text.specs.Lists.{listed}
use Rattle.scenario_text.proofs.Lists.{none_read}
use Rattle.scenario_text.proofs.peers.PeerList.read.Goals as goal

pub returns-then-eq : goal.returns-then-eq
returns-then-eq c =
    none_read c.args.text.now (listed c.clear.new.self) ((bytes_eq-Decides c.args.text.now (codes "none")).0 (sym c.if-eq.ensures)) c.clear.ensures

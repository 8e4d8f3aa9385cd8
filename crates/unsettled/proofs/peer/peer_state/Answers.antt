use Rattle.std.proofs.Common.{◌∙◌}
use Rattle.unsettled.specs.Peers.{LegalTags}
use Rattle.unsettled.proofs.Legal.{first_told}
use Rattle.unsettled.proofs.peer.peer_state.Goals as goal

pub returns-clause-legal : goal.returns-clause-legal
returns-clause-legal c = λ (h : LegalTags c.args.pairs.now). c.first_state.ensures ∙ first_told c.args.tag.now c.args.pairs.now h.short

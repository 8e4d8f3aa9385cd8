use Rattle.scenario_text.proofs.Lists.{pair_read}
use Rattle.scenario_text.proofs.peers.read_pair.Goals as goal

pub returns-in-Ok : goal.returns-in-Ok
returns-in-Ok c =
    pair_read c.args.part.now c.halves.result c.in_ok-tag.tag c.in_ok-tag.state c.in-Ok.tag.items c.read_optional_state.result c.in_ok-state.state c.halves.ensures c.in_ok-tag.ensures.ok_part c.in-Ok.ensures.printed c.read_optional_state.ensures c.in_ok-state.ensures.ok_part

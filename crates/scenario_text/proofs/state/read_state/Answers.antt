use Rattle.scenario_text.proofs.state.read_state.Goals as goal

pub returns-in_default : goal.returns-in_default
returns-in_default c = c.read_state_with_values.ensures c.in_default.not-accepted c.in_default.not-released

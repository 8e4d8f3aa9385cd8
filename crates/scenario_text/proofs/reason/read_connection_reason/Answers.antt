use Rattle.scenario_text.proofs.reason.read_connection_reason.Goals as goal

pub returns-in_default : goal.returns-in_default
returns-in_default c = c.read_connection_cause.ensures c.in_default.not-Closed c.in_default.not-RemoteClosed

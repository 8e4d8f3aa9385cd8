use Rattle.scenario_text.proofs.reason.read_session_reason.Goals as goal

pub returns-in_default : goal.returns-in_default
returns-in_default c = c.read_session_cause.ensures c.in_default.not-Ended c.in_default.not-RemoteEnded

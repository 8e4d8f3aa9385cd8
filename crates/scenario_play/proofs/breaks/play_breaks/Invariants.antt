use Rattle.std.proofs.Common.{◌≡◌, ◌≤◌}
use Rattle.scenario_play.proofs.breaks.play_breaks.Given as goal

abbrev pub invariant-loop-step : goal.invariant-loop-step
invariant-loop-step g l = record { places : l.breaks.places ≡ l.places; lost : l.breaks.lost ≤ l.step }

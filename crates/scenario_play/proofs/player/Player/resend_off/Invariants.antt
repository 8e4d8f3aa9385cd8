use Rattle.scenario_play.specs.Comebacks.{Holding}
use Rattle.scenario_play.proofs.player.Player.resend_off.Given as goal

abbrev pub invariant-loop : goal.invariant-loop
invariant-loop g l = Holding l.initial.self l.self

use Rattle.ship.proofs.breaking.crossing.Crossing.collect.Given as goal

abbrev pub decreases-loop-ticket : goal.decreases-loop-ticket
decreases-loop-ticket l = goal.left-loop-ticket l

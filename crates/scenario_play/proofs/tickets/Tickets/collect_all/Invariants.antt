use Rattle.std.proofs.Common.{◌≡◌, vec_len, vec_items}
use Rattle.scenario_play.specs.Tickets.{all_collected}
use Rattle.scenario_play.proofs.tickets.Tickets.collect_all.Given as goal

abbrev pub decreases-loop-ticket : goal.decreases-loop-ticket
decreases-loop-ticket l = vec_len l.held

abbrev pub invariant-loop-ticket : goal.invariant-loop-ticket
invariant-loop-ticket l = all_collected (vec_items l.held) l.link ≡ all_collected (vec_items l.initial.held) l.initial.link

-- Tickets that are collected from the last one on.
use Rattle.std.proofs.Common.{◌≡◌, List, [], ◌∷◌, ◌++◌, refl, ap}
use Rattle.link.specs.Calls.{Collect, step}
use Rattle.link.specs.Views.{View}
use Rattle.sender.specs.declared.ticket.Ticket.{Ticket}
use Rattle.scenario_play.specs.Tickets.{all_collected}

pub all_collected_last : (ts : List Ticket) (t : Ticket) (v : View) → all_collected (ts ++ t ∷ []) v ≡ all_collected ts (step v (Collect t.number))
all_collected_last [] t v = refl
all_collected_last (u ∷ ts) t v = ap (λ w. step w (Collect u.number)) (all_collected_last ts t v)

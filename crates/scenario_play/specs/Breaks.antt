-- What is printed of a scenario that was broken at each of its steps.
use Rattle.std.specs.Prelude.{ℕ, ◌-◌, List, ◌++◌, codes, decimal}
use Rattle.scenario_play.specs.declared.breaks.Breaks.{Breaks as Counted}

abbrev pub breaks_text : Counted → List ℕ
breaks_text b =
    decimal b.places
    ++ (codes " places, " ++ (decimal (b.places - b.lost)
    ++ (codes " with every ticket told or kept, " ++ (decimal b.lost ++ codes " with one lost"))))

-- What playing a scenario comes to.
use Rattle.std.specs.Prelude.{◌≡◌, ℕ, ◌⊎◌, ⊤, Ok, Err, Result}
use Rattle.scenario_play.specs.declared.trouble.Failure.{Failure}
use Rattle.scenario_play.specs.declared.trouble.Trouble.{Trouble}
use Rattle.scenario_play.specs.declared.trouble.Trouble.TheVariants as trouble
use Rattle.embed_scenario.specs.declared.CPlayed.{CPlayed}

-- no more room for answers is 20, no memory 67, and all else that is wrong with the scenario 66
abbrev pub status_of : Trouble → ℕ
status_of (trouble.Io e) = 20
status_of trouble.Memory = 67
status_of _ = 66

abbrev pub told : Result ⊤ Failure → ℕ → CPlayed
told (Ok _) written = record { status = 0; written = written; line = 0 }
told (Err f) written = record { status = status_of f.trouble; written = written; line = f.line }

-- no other status is answered, and a run that came to its end names no line
abbrev pub Status : CPlayed → Type 0
Status p = ((p.status ≡ 0) × (p.line ≡ 0)) ⊎ ((p.status ≡ 20) ⊎ ((p.status ≡ 66) ⊎ (p.status ≡ 67)))

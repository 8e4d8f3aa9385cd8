-- What stands behind a line's blanks.
use Rattle.std.proofs.Common.{◌≡◌, ℕ, List, Option, ap, ◌∙◌}
use Rattle.std.proofs.lemmas.Str.Ascii.{trim_ascii_start_is}
use Rattle.std.specs.List.{slice_get}
use Rattle.std.specs.Str.{IsTrimAsciiStart}
use Rattle.scenario_play.specs.Inputs.{begins_remark, says_nothing}

pub passed_over : (line rest : List ℕ) (first : Option ℕ) → IsTrimAsciiStart line rest → first ≡ slice_get rest 0 → begins_remark first ≡ says_nothing line
passed_over line rest first trim is = ap begins_remark (is ∙ ap (λ l. slice_get l 0) (trim_ascii_start_is line rest trim))

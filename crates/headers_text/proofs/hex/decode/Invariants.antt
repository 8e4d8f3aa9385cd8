use Rattle.std.proofs.Common.{◌≤◌, take, vec_items}
use Rattle.std.specs.Prelude.{vec_capacity}
use Rattle.std.specs.List.{concat}
use Rattle.headers_text.specs.Hex.{Added}
use Rattle.headers_text.proofs.hex.decode.Given as goal

abbrev pub invariant-loop-high : goal.invariant-loop-high
invariant-loop-high l =
    record {
      added : Added (concat (take l.high-index l.digits)) (vec_items l.initial.into) (vec_items l.into);
      capacity : vec_capacity l.initial.into ≤ vec_capacity l.into;
    }

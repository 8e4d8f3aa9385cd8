-- A detach by its parts: what refuses it, and what goes back into the table.
use Rattle.std.specs.Prelude.{◌≡◌, Bool, true, false, cond, List, [], ◌∷◌, ◌++◌, length, take, None, Option, Result}
use Rattle.std.specs.Option.{unwrap_or}
use Rattle.amqp.specs.declared.error.ApplyRemoteDetachError.{ApplyRemoteDetachError}
use Rattle.amqp.specs.declared.error.ApplyRemoteDetachError.TheVariants as fault
use Rattle.link.specs.declared.state.LinkState.{LinkState}
use Rattle.link.specs.Attaching.{stuck}
use Rattle.link.specs.Detaching.{put_back, overfull, clash}
use Rattle.link.specs.Rows.{row, first, gated}
use Rattle.link.specs.States.{after_detach}
use Rattle.link.specs.Views.{View, Entry}

-- these entries join a table `xs` one by one, with the answer `r`, and leave it as `ys`
pub record Joined (xs es : List Entry) (r : Result (Unit {0}) ApplyRemoteDetachError) (ys : List Entry) : Type 0 where
  pub answer : r ≡ gated (row (clash es xs) fault.TagInTable) tt
  pub joined : clash es xs ≡ false → ys ≡ xs ++ es
  -- what was there is still its front
  pub front : take (length xs) ys ≡ xs

-- 2 and 11
abbrev pub own_refusal : View → (closed : Bool) → Option ApplyRemoteDetachError
own_refusal v closed =
    first (stuck (after_detach v.state closed) fault.IllegalState ∷ cond closed [] (row (overfull v) fault.TableFull ∷ []))

abbrev pub next_state : View → (closed : Bool) → LinkState
next_state v closed = unwrap_or (after_detach v.state closed) v.state

-- 13
abbrev pub clashing : View → Option ApplyRemoteDetachError
clashing v = row (clash (put_back v.held) v.held.table) fault.TagInTable

abbrev pub let_go_refusal : View → (closed : Bool) → Option ApplyRemoteDetachError
let_go_refusal v true = None
let_go_refusal v false = clashing v

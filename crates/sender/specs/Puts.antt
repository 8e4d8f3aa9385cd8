-- A call that may put a delivery's frames: what it answers, and what link and sink are then.
use Rattle.std.specs.Prelude.{◌≡◌, ℕ, List, length, Option, Result}
use Rattle.amqp.specs.declared.error.SendError.{SendError}
use Rattle.sink.specs.Cuts.{Carries}
use Rattle.sink.specs.Frames.{Frame, Model, After}
use Rattle.link.specs.Rows.{gated, unless, Accepted}
use Rattle.link.specs.Sending.{Carrier}
use Rattle.link.specs.Turns.{Turn, stay, landed}
use Rattle.link.specs.Views.{View}

-- from link `v`, by a refusal or none, with the answer `a` and the turn `u` of an accepted call: the answer is `r`, and the link `w`
-- and the sink `t` are left
pub record Puts {A : Type 0} (o : Option SendError) (a : A) (u : Turn) (frames : List Frame) (payload : List ℕ) (v : View) (c : Carrier) (r : Result A SendError) (w : View) (t : Model) : Type 0 where
  pub answer : r ≡ gated o a
  pub link : w ≡ landed v (unless o (stay v) u)
  -- the frames join the end of those that wait, or none do
  pub sink : After o c.sink t frames (length frames)
  -- joined, their payloads are what is carried; with any delivery id set later each fits the frame size
  pub carries : Accepted o (Carries c.bytes v.settings.max_frame_size payload frames)

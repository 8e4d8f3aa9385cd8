-- Our own disposition of a delivery, by link and sink.
use Rattle.std.specs.Prelude.{◌≡◌, length, Result}
use Rattle.amqp.specs.declared.error.SinkError.{SinkError}
use Rattle.sink.specs.Frames.{Model, After}
use Rattle.link.specs.declared.delivery.Disposal.{Disposal}
use Rattle.link.specs.Calls.{Dispose, step}
use Rattle.link.specs.Disposing.{dispose_refusal, disposed_frames}
use Rattle.link.specs.Rows.{gated}
use Rattle.link.specs.Views.{View}

-- a dispose of `d` from link `v` and sink `s` answers `r`, and leaves the link `w` and the sink `t`
pub record Disposes (v : View) (s : Model) (d : Disposal) (r : Result (Unit {0}) SinkError) (w : View) (t : Model) : Type 0 where
  pub answer : r ≡ gated (dispose_refusal v s) tt
  pub link : w ≡ step v (Dispose s d)
  -- one frame joins the end of those that wait; none where it is refused, or where all deliveries are settled when they are sent
  pub sink : After (dispose_refusal v s) s t (disposed_frames v d) (length (disposed_frames v d))

-- What is printed of an outcome.
use Rattle.std.specs.Prelude.{ℕ, List, ◌++◌, codes, decimal}
use Rattle.amqp.specs.States.{condition_number}
use Rattle.amqp.specs.Texts.{state_text}
use Rattle.link.specs.declared.delivery.Outcome.{Outcome}
use Rattle.link.specs.declared.delivery.Outcome.TheVariants.{State, NoState, RemoteClosed, RemoteClosedWithError}

abbrev pub outcome_text : Outcome → List ℕ
outcome_text NoState = codes "none"
outcome_text (State s) = state_text s
outcome_text RemoteClosed = codes "RemoteClosed"
outcome_text (RemoteClosedWithError e) = codes "RemoteClosedWithError " ++ decimal (condition_number e)

-- What is printed of why a sink is stopped.
use Rattle.std.specs.Prelude.{ℕ, List, codes}
use Rattle.amqp.specs.declared.stop.ConnectionStopReason.{ConnectionStopReason}
use Rattle.amqp.specs.declared.stop.ConnectionStopReason.TheVariants as connection
use Rattle.amqp.specs.declared.stop.SessionStopReason.{SessionStopReason}
use Rattle.amqp.specs.declared.stop.SessionStopReason.TheVariants as session
use Rattle.scenario_text.specs.Reading.{closed}
use Rattle.scenario_text.specs.Values.{error_text}

abbrev pub connection_text : ConnectionStopReason → List ℕ
connection_text connection.Closed = codes "Closed"
connection_text (connection.ClosedWithError e) = closed (codes "ClosedWithError(") (error_text e)
connection_text connection.RemoteClosed = codes "RemoteClosed"
connection_text (connection.RemoteClosedWithError e) = closed (codes "RemoteClosedWithError(") (error_text e)

abbrev pub session_text : SessionStopReason → List ℕ
session_text session.Ended = codes "Ended"
session_text (session.EndedWithError e) = closed (codes "EndedWithError(") (error_text e)
session_text session.RemoteEnded = codes "RemoteEnded"
session_text (session.RemoteEndedWithError e) = closed (codes "RemoteEndedWithError(") (error_text e)
session_text (session.ConnectionStopped r) = closed (codes "ConnectionStopped(") (connection_text r)

-- A reason is none where no head of a reason fits.
use Rattle.std.proofs.Common.{◌≡◌, ℕ, List, None, codes}
use Rattle.amqp.specs.declared.stop.ConnectionStopReason.{ConnectionStopReason}
use Rattle.amqp.specs.declared.stop.ConnectionStopReason.TheVariants as connection
use Rattle.amqp.specs.declared.stop.SessionStopReason.{SessionStopReason}
use Rattle.amqp.specs.declared.stop.SessionStopReason.TheVariants as session
use Rattle.scenario_text.specs.Reading.{Reads, Any, closed}
use Rattle.scenario_text.specs.Reasons.{connection_text, session_text}
use Rattle.scenario_text.specs.Values.{error_text}
use Rattle.scenario_text.proofs.Reading.{none_read}

-- the text does not begin with this head and end with a bracket
abbrev pub Other : List ℕ → List ℕ → Type 0
Other text head = (x : List ℕ) → text ≡ closed head x → ⊥

no_connection : (text : List ℕ) (r : ConnectionStopReason) → (text ≡ codes "Closed" → ⊥) → (text ≡ codes "RemoteClosed" → ⊥) → Other text (codes "ClosedWithError(") → Other text (codes "RemoteClosedWithError(") → text ≡ connection_text r → ⊥
no_connection text connection.Closed nc nr h k e = nc e
no_connection text (connection.ClosedWithError x) nc nr h k e = h (error_text x) e
no_connection text connection.RemoteClosed nc nr h k e = nr e
no_connection text (connection.RemoteClosedWithError x) nc nr h k e = k (error_text x) e

pub connection_unread : (text : List ℕ) → (text ≡ codes "Closed" → ⊥) → (text ≡ codes "RemoteClosed" → ⊥) → Other text (codes "ClosedWithError(") → Other text (codes "RemoteClosedWithError(") → Reads connection_text Any text None
connection_unread text nc nr h k = none_read connection_text Any text (λ r any e. no_connection text r nc nr h k e)

no_session : (text : List ℕ) (r : SessionStopReason) → (text ≡ codes "Ended" → ⊥) → (text ≡ codes "RemoteEnded" → ⊥) → Other text (codes "EndedWithError(") → Other text (codes "RemoteEndedWithError(") → Other text (codes "ConnectionStopped(") → text ≡ session_text r → ⊥
no_session text session.Ended ne nr h k l e = ne e
no_session text (session.EndedWithError x) ne nr h k l e = h (error_text x) e
no_session text session.RemoteEnded ne nr h k l e = nr e
no_session text (session.RemoteEndedWithError x) ne nr h k l e = k (error_text x) e
no_session text (session.ConnectionStopped r) ne nr h k l e = l (connection_text r) e

pub session_unread : (text : List ℕ) → (text ≡ codes "Ended" → ⊥) → (text ≡ codes "RemoteEnded" → ⊥) → Other text (codes "EndedWithError(") → Other text (codes "RemoteEndedWithError(") → Other text (codes "ConnectionStopped(") → Reads session_text Any text None
session_unread text ne nr h k l = none_read session_text Any text (λ r any e. no_session text r ne nr h k l e)

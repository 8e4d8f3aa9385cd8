-- What is printed of shipments and totals.
use Rattle.std.specs.Prelude.{ℕ, ◌+◌, min, Bool, true, false, cond, List, ◌++◌, Some, None, codes, decimal, Option}
use Rattle.amqp.specs.declared.state.DeliveryState.TheVariants.{Received, Accepted, Rejected, Released, Modified}
use Rattle.amqp.specs.Refusals.{send_number}
use Rattle.link.specs.declared.delivery.Outcome.{Outcome}
use Rattle.link.specs.declared.delivery.Outcome.TheVariants.{State, NoState, RemoteClosed, RemoteClosedWithError}
use Rattle.link.specs.Texts.{outcome_text}
use Rattle.shipping.specs.declared.report.ShipError.{ShipError}
use Rattle.shipping.specs.declared.report.ShipError.TheVariants.{Refused, NoMemory, Link}
use Rattle.shipping.specs.declared.report.Shipment.{Shipment}
use Rattle.shipping.specs.declared.report.Totals.{Totals}

abbrev pub told_text : Option Outcome → List ℕ
told_text None = codes "pending"
told_text (Some o) = outcome_text o

abbrev pub shipment_text : Shipment → List ℕ
shipment_text s = decimal s.frames ++ (codes " frames, ticket " ++ (decimal s.ticket ++ (codes ", " ++ told_text s.progress)))

abbrev pub error_text : ShipError → List ℕ
error_text (Refused e) = codes "refused " ++ decimal (send_number e)
error_text NoMemory = codes "not enough memory"
error_text Link = codes "the link is not attached"

abbrev pub totals_text : Totals → List ℕ
totals_text t =
    decimal t.files
    ++ (codes " files, "
    ++ (decimal t.frames
    ++ (codes " frames, "
    ++ (decimal t.bytes ++ (codes " bytes, " ++ (decimal t.accepted ++ (codes " accepted, " ++ (decimal t.pending ++ codes " pending"))))))))

-- ---- counting

abbrev pub is_accepted : Option Outcome → Bool
is_accepted None = false
is_accepted (Some NoState) = false
is_accepted (Some (State (Received p))) = false
is_accepted (Some (State Accepted)) = true
is_accepted (Some (State (Rejected e))) = false
is_accepted (Some (State Released)) = false
is_accepted (Some (State (Modified failed undeliverable))) = false
is_accepted (Some RemoteClosed) = false
is_accepted (Some (RemoteClosedWithError e)) = false

abbrev pub is_pending : Option Outcome → Bool
is_pending None = true
is_pending (Some o) = false

-- a count goes no higher than 64 bits
abbrev pub raised : ℕ → ℕ → ℕ
raised n by = min (n + by) 18446744073709551615

-- one more file, of so many bytes
abbrev pub tallied : Totals → (bytes : ℕ) → Shipment → Totals
tallied t bytes s =
    record {
      files = raised t.files 1;
      frames = raised t.frames s.frames;
      bytes = raised t.bytes bytes;
      accepted = raised t.accepted (cond (is_accepted s.progress) 1 0);
      pending = raised t.pending (cond (is_pending s.progress) 1 0);
    }

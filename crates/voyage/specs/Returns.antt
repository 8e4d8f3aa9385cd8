-- How deliveries come back with the link, and how many.
use Rattle.std.specs.Prelude.{ℕ, Bool, true, false, List, ◌++◌, Some, None, codes, decimal, Option}
use Rattle.amqp.specs.declared.state.DeliveryState.{DeliveryState}
use Rattle.amqp.specs.declared.state.DeliveryState.TheVariants as state
use Rattle.shipping.specs.Texts.{raised}
use Rattle.voyage.specs.declared.returns.Return.{Return}
use Rattle.voyage.specs.declared.returns.Return.TheVariants.{Resumed, Restated, Resent, Aborted}
use Rattle.voyage.specs.declared.returns.Returns.{Returns}

-- an aborted one; one from a place on; one with an outcome (Part 2, 2.6.13); any other transfer is of no delivery that comes back
abbrev pub return_of : (resume aborted : Bool) → Option DeliveryState → Option Return
return_of false a s = None
return_of true true s = Some Aborted
return_of true false (Some (state.Received p)) = Some (Resumed p.section_offset)
return_of true false (Some state.Accepted) = Some Restated
return_of true false (Some (state.Rejected e)) = Some Restated
return_of true false (Some state.Released) = Some Restated
return_of true false (Some (state.Modified f u)) = Some Restated
return_of true false None = None

-- one more
abbrev pub counted : Return → Returns → Returns
counted (Resumed p) r = record { resumed = raised r.resumed 1; resent = r.resent; restated = r.restated; aborted = r.aborted }
counted Resent r = record { resumed = r.resumed; resent = raised r.resent 1; restated = r.restated; aborted = r.aborted }
counted Restated r = record { resumed = r.resumed; resent = r.resent; restated = raised r.restated 1; aborted = r.aborted }
counted Aborted r = record { resumed = r.resumed; resent = r.resent; restated = r.restated; aborted = raised r.aborted 1 }

abbrev pub returns_text : Returns → List ℕ
returns_text r =
    decimal r.resumed
    ++ (codes " resumed, "
    ++ (decimal r.resent ++ (codes " resent, " ++ (decimal r.restated ++ (codes " restated, " ++ (decimal r.aborted ++ codes " aborted"))))))

-- What holds of every run of a link.
use Rattle.std.specs.Prelude.{◌≡◌, ℕ, ◌≤◌, Bool, List, Some, Ok, ◌≢◌}
use Rattle.amqp.specs.declared.error.ApplyRemoteDetachError.TheVariants as detach
use Rattle.amqp.specs.declared.error.SendError.TheVariants as fault
use Rattle.link.specs.declared.delivery.Outcome.{Outcome}
use Rattle.link.specs.Calls.{Call, put_by}
use Rattle.link.specs.Detaching.{detach_refusal}
use Rattle.link.specs.Disposing.{looked}
use Rattle.link.specs.Resending.{resend_refusal}
use Rattle.link.specs.declared.delivery.Sendable.{Sendable}
use Rattle.link.specs.Sending.{Carrier, send_refusal}
use Rattle.link.specs.Views.{View}
use Rattle.link.specs.Working.{work_refusal}
use Rattle.runs.specs.Frames.{PutsRight}
use Rattle.runs.specs.Lives.{over, life, AsLived, born, progress}
use Rattle.runs.specs.Runs.{Run, made, Making, ◌▹◌, making, after, ◌then◌, Leads, given, collected}

-- deliveries never stand in the way of one another: 13 stops no send, and neither 11 nor 13 stops work, a resend or a detach
pub record NeverInTheWay (v : View) : Type 0 where
  pub send : (c : Carrier) (m : Sendable) → send_refusal v c m ≢ Some fault.TagInTable
  pub work : (c : Carrier) → (work_refusal v c ≢ Some fault.TableFull) × (work_refusal v c ≢ Some fault.TagInTable)
  pub resend : (c : Carrier) → (resend_refusal v c ≢ Some fault.TableFull) × (resend_refusal v c ≢ Some fault.TagInTable)
  pub detach : (closed : Bool) → (detach_refusal v closed ≢ Some detach.TableFull) × (detach_refusal v closed ≢ Some detach.TagInTable)

pub record Safe (r : Run) (v : View) : Type 0 where
  -- what the link's memory holds of a delivery is what its life says: it stands once, where, under which tag, at which
  -- place and with which state the calls so far fix, or nowhere once it has ended
  pub no_delivery_lost_or_ended_twice : (n : ℕ) → AsLived n (life r n) v.held
  -- a life begins with the answer of its ticket, and no two sends answer one number
  pub no_number_given_twice : (n : ℕ) → given n r ≡ born (life r n)
  -- look and collect answer pending before the call that ends the delivery, and then its outcome
  pub ticket_tells_the_outcome : (n : ℕ) → given n r ≡ 1 → collected n r ≡ 0 → looked v n ≡ Ok (progress (life r n))
  -- the link has the rooms that it was made with
  pub rooms_kept : v.rooms ≡ (making r).rooms
  -- where its resend list is no shorter than its table, as making sees to (`Begun`)
  pub never_in_the_way : v.rooms.table ≤ v.rooms.resend → NeverInTheWay v
  -- whatever calls follow
  pub ended_for_good : (n : ℕ) (o : Outcome) → life r n ≡ over o → (cs : List Call) → life (r then cs) n ≡ over o

abbrev pub EveryRunSafe : Type 0
EveryRunSafe = (r : Run) → Safe r (after r) × ((c : Call) → PutsRight (after r) c (put_by (after r) c))

-- on the contract of a call that led from `v` to `w`: every run that leads to the link before it leads, with the call,
-- to the link after it, all of this holds of it, and the call's frames are right
abbrev pub SafeAfter : View → Call → View → Type 0
SafeAfter v c w = (r : Run) → Leads r v → Leads (r ▹ c) w × Safe (r ▹ c) w × PutsRight v c (put_by v c)

-- on the contract of making: the link is one that a run begins with, and its resend list is no shorter than its table
abbrev pub Begun : View → Type 0
Begun v = (m : Making) × Leads (made m) v × Safe (made m) v × (v.rooms.table ≤ v.rooms.resend)

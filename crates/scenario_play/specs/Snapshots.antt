-- A whole link as a line shows it.
use Rattle.std.specs.Prelude.{◌≡◌, filter_map, Option, Some, None, vec_items, IsPermutation}
use Rattle.link.specs.declared.seat.Seat.{Seat}
use Rattle.link.specs.declared.seat.Seat.TheVariants.{Free, Pending, Ended}
use Rattle.link.specs.Views.{View}
use Rattle.scenario_play.specs.declared.snapshot.Occupied.{Occupied}
use Rattle.scenario_play.specs.declared.snapshot.Snapshot.{Snapshot}

-- a seat that is taken
abbrev pub occupied_of : Seat → Option Occupied
occupied_of Free = None
occupied_of (Pending n) = Some (record { number = n; outcome = None })
occupied_of (Ended n o) = Some (record { number = n; outcome = Some o })

-- its table and lists in their order, and the seats that are taken
pub record ShowsLink (v : View) (x : Snapshot) : Type 0 where
  pub state : x.state ≡ v.state
  pub output : x.output ≡ v.output
  pub input : x.input ≡ v.input
  pub count : x.delivery_count ≡ v.flow.delivery_count
  pub credit : x.link_credit ≡ v.flow.link_credit
  pub limit : x.max_message_size ≡ v.settings.max_message_size
  pub table : vec_items x.table ≡ v.held.table
  pub resume : vec_items x.resume ≡ v.held.resume
  pub resend : vec_items x.resend ≡ v.held.resend
  pub seats : IsPermutation (filter_map occupied_of v.seats) (vec_items x.seats)

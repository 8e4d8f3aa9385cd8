-- A delivery's round: sent, told to be accepted, and collected, on a link that was at rest.
use Rattle.std.proofs.Common.{◌≡◌, ℕ, suc, true, eqb, [], replicate, Some, Ok, refl, arith}
use Rattle.std.proofs.lemmas.Bool.Decides.{nat_tests}
use Rattle.amqp.specs.declared.mode.SenderSettleMode.TheVariants.{Unsettled}
use Rattle.amqp.specs.declared.state.DeliveryState.TheVariants.{Accepted}
use Rattle.amqp.specs.declared.tag.DeliveryTag.{DeliveryTag}
use Rattle.unsettled.specs.Tables.{same_tag}
use Rattle.unsettled.proofs.Same.{same_tag_decides}
use Rattle.link.specs.declared.delivery.Outcome.TheVariants.{State}
use Rattle.link.specs.declared.seat.Seat.TheVariants.{Free}
use Rattle.link.specs.Calls.{Disposition, Collect, step}
use Rattle.link.specs.Disposing.{looked}
use Rattle.link.specs.Sending.{next_number, next_tag, sent}
use Rattle.link.specs.Turns.{landed}
use Rattle.link.specs.Views.{View}
use Rattle.shipping.specs.Docks.{plain}

same : (t : DeliveryTag) → same_tag t t ≡ true
same t = (same_tag_decides t t).1 refl

self : (n : ℕ) → eqb n n ≡ true
self n = grind (arith, nat_tests)

-- the link once a message of `len` bytes is sent, and then once it is accepted
abbrev pub underway : View → (len : ℕ) → View
underway u len = landed u (sent u (plain len))

abbrev pub ended : View → (len : ℕ) → View
ended u len = step (underway u len) (Disposition (next_tag u) true (Some Accepted))

abbrev pub round : View → (len : ℕ) → View
round u len = step (ended u len) (Collect (next_number u))

pub tells_accepted : (u : View) (len k : ℕ) → u.settings.snd_settle_mode ≡ Unsettled → u.held.table ≡ [] → u.seats ≡ replicate (suc k) Free → looked (ended u len) (next_number u) ≡ Ok (Some (State Accepted))
tells_accepted u len k mode table seats = simp (mode, table, seats, same, self)

pub table_empty : (u : View) (len k : ℕ) → u.settings.snd_settle_mode ≡ Unsettled → u.held.table ≡ [] → u.seats ≡ replicate (suc k) Free → (round u len).held.table ≡ []
table_empty u len k mode table seats = simp (mode, table, seats, same)

pub seats_free : (u : View) (len k : ℕ) → u.settings.snd_settle_mode ≡ Unsettled → u.held.table ≡ [] → u.seats ≡ replicate (suc k) Free → (round u len).seats ≡ replicate (suc k) Free
seats_free u len k mode table seats = simp (mode, table, seats, same, self)

pub settings_kept : (u : View) (len : ℕ) → u.settings.snd_settle_mode ≡ Unsettled → u.held.table ≡ [] → (round u len).settings ≡ u.settings
settings_kept u len mode table = simp (mode, table, same)

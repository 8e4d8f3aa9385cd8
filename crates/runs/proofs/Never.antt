-- Deliveries never stand in the way of one another, where the resend list is no shorter than the table.
use Rattle.std.proofs.Common.{◌≡◌, ◌+◌, ◌≤◌, Bool, true, false, cond, List, [], ◌∷◌, ◌++◌, length, Some, None, Option, refl, ap, arith, length-append}
use Rattle.std.proofs.lemmas.Bool.Decides.{nat_tests}
use Rattle.std.specs.List.{AllByRecursion}
use Rattle.std.specs.Option.{option_map}
use Rattle.std.specs.Prelude.{not, ◌≢◌}
use Rattle.amqp.specs.Refusals.{of_sink}
use Rattle.amqp.specs.declared.error.ApplyRemoteDetachError.TheVariants as detach
use Rattle.amqp.specs.declared.error.LinkStateError.TheVariants.{IllegalState}
use Rattle.amqp.specs.declared.error.SendError.{SendError}
use Rattle.amqp.specs.declared.error.SendError.TheVariants as send
use Rattle.amqp.specs.declared.error.SinkError.{SinkError}
use Rattle.amqp.specs.declared.error.SinkError.TheVariants as sink
use Rattle.amqp.specs.declared.tag.DeliveryTag.{DeliveryTag}
use Rattle.link.specs.declared.resumption.ResumingDelivery.{ResumingDelivery}
use Rattle.link.specs.declared.resumption.ResumingDelivery.TheVariants as item
use Rattle.link.specs.declared.resumption.Task.{Task}
use Rattle.link.specs.Detaching.{put_back, overfull, clash, detach_refusal}
use Rattle.link.specs.Resending.{again, again_rows, resend_refusal}
use Rattle.link.specs.Resuming.{listed}
use Rattle.link.specs.Rows.{row, first}
use Rattle.link.specs.States.{after_detach}
use Rattle.link.specs.Attaching.{stuck}
use Rattle.link.specs.declared.delivery.Sendable.{Sendable}
use Rattle.link.specs.Sending.{Carrier, entry_rows, own_rows, sink_row, share_for, payload, send_refusal, goes_settled, next_tag, table_full, tag_there, none_left, ready, join_rows}
use Rattle.link.specs.Views.{View, Entry}
use Rattle.link.specs.Working.{working, resend_full, joining_rows, task_rows, item_rows, resume_task, restate_task, abort_task, settling_task, work_refusal}
use Rattle.runs.specs.Safe.{NeverInTheWay}
use Rattle.runs.proofs.Entries.{tally, tally_++}
use Rattle.runs.proofs.Sound.{Sound}
use Rattle.runs.proofs.Tallies.{absent, no_clash, own_tag}

-- a refusal, if there is one, that is neither of two
abbrev Neither : {E : Type 0} → E → E → Option E → Type 0
Neither a b o = (o ≢ Some a) × (o ≢ Some b)

no_refusal : {E : Type 0} {a b : E} → Neither a b None
no_refusal = (λ e. cc, λ e. cc)

another : {E : Type 0} {a b : E} (x : E) (t : Bool) → Neither a b (Some x) → Neither a b (row t x)
another x true n = n
another x false n = no_refusal

unmet : {E : Type 0} {a b : E} (x : E) (t : Bool) → t ≡ false → Neither a b (row t x)
unmet x true e = absurd (cc)
unmet x false e = no_refusal

first_neither : {E : Type 0} {a b : E} (os : List (Option E)) → AllByRecursion (Neither a b) os → Neither a b (first os)
first_neither [] h = no_refusal
first_neither (None ∷ os) h = first_neither os h.1
first_neither (Some x ∷ os) h = h.0

-- ---- what work and a resend may be refused

-- neither 11 nor 13
abbrev Clear : Option SendError → Type 0
Clear o = Neither send.TableFull send.TagInTable o

of_sink_clear : (o : Option SinkError) → Clear (option_map of_sink o)
of_sink_clear None = no_refusal
of_sink_clear (Some (sink.SessionStopped r)) = (λ e. cc, λ e. cc)
of_sink_clear (Some sink.PayloadTooWide) = (λ e. cc, λ e. cc)
of_sink_clear (Some sink.SinkFull) = (λ e. cc, λ e. cc)

-- an entry that joins finds room, and no entry of its tag
abbrev Joins : View → Option Entry → Type 0
Joins v None = Unit {0}
Joins v (Some e) = (table_full v ≡ false) × (tag_there e.tag v ≡ false)

join_clear : (v : View) (t : DeliveryTag) (os : List (Option SendError)) → table_full v ≡ false → tag_there t v ≡ false → AllByRecursion Clear os → AllByRecursion Clear (join_rows t v ++ os)
join_clear v t os f a h = (unmet send.TableFull (table_full v) f, (unmet send.TagInTable (tag_there t v) a, h))

joining_clear : (v : View) (o : Option Entry) (os : List (Option SendError)) → Joins v o → AllByRecursion Clear os → AllByRecursion Clear (joining_rows o v ++ os)
joining_clear v None os j h = h
joining_clear v (Some e) os j h = join_clear v e.tag os j.0 j.1 h

task_clear : (v : View) (c : Carrier) (t : Task) → Joins v t.joins → AllByRecursion Clear (task_rows v c t)
task_clear v c t j = (another send.FrameTooSmall _ (λ e. cc, λ e. cc), joining_clear v t.joins _ j (of_sink_clear _, tt))

-- one that waits in a list has a place free in the table, and its tag is not there
has_room : (v : View) → Sound v → 1 ≤ length (listed v.held.resume) + length v.held.resend → table_full v ≡ false
has_room v h k = let r = h.room in grind (arith, nat_tests)

not_there : (v : View) (t : DeliveryTag) → Sound v → 1 ≤ tally t (listed v.held.resume) + tally t v.held.resend → tag_there t v ≡ false
not_there v t h k = absent t v.held.table (omega (arith, h.single t))

next_new : (v : View) → Sound v → tag_there (next_tag v) v ≡ false
next_new v h = absent (next_tag v) v.held.table (omega (arith, h.unused v.flow.delivery_count (omega arith) (omega (arith, h.span))))

item_joins : (v : View) (e : Entry) (es : List Entry) → listed v.held.resume ≡ e ∷ es → Sound v → (table_full v ≡ false) × (tag_there e.tag v ≡ false)
item_joins v e es q h = (
  has_room v h (omega (arith, ap length q)),
  not_there v e.tag h (omega (arith, ap (tally e.tag) q, own_tag e.tag)),
)

-- one that waits in the resume list has room in the resend list: only this asks for one no shorter than the table
resend_room : (v : View) (e : Entry) (es : List Entry) → listed v.held.resume ≡ e ∷ es → Sound v → v.rooms.table ≤ v.rooms.resend → resend_full v ≡ false
resend_room v e es q h m = let r = h.room in let n = ap length q in grind (arith, nat_tests)

item_clear : (v : View) (c : Carrier) (is : List ResumingDelivery) → v.held.resume ≡ is → Sound v → v.rooms.table ≤ v.rooms.resend → AllByRecursion Clear (item_rows v c is)
item_clear v c [] q h m = tt
item_clear v c (item.Resend e ∷ is) q h m = (unmet send.TableFull _ (resend_room v e (listed is) (ap listed q) h m), tt)
item_clear v c (item.Resume e p ∷ is) q h m = (another send.OutsidePool _ (λ e. cc, λ e. cc), task_clear v c (resume_task v c.pool e p) (item_joins v e (listed is) (ap listed q) h))
item_clear v c (item.Abort e ∷ is) q h m = task_clear v c (abort_task v e) tt
item_clear v c (item.RestateOutcome e ∷ is) q h m = (another send.OutsidePool _ (λ e. cc, λ e. cc), task_clear v c (restate_task v e) (item_joins v e (listed is) (ap listed q) h))
item_clear v c (item.Settling t f o ∷ is) q h m = task_clear v c (settling_task v t f o) tt

work_clear : (v : View) (c : Carrier) → Sound v → v.rooms.table ≤ v.rooms.resend → Clear (work_refusal v c)
work_clear v c h m =
    first_neither (row (not (working v)) (send.LinkState IllegalState) ∷ item_rows v c v.held.resume)
    (another (send.LinkState IllegalState) _ (λ e. cc, λ e. cc), item_clear v c v.held.resume refl h m)

again_joins : (v : View) (b : Bool) (os : List (Option SendError)) → table_full v ≡ false → Sound v → AllByRecursion Clear os → AllByRecursion Clear (cond b [] (join_rows (next_tag v) v) ++ os)
again_joins v true os f h k = k
again_joins v false os f h k = join_clear v (next_tag v) os f (next_new v h) k

again_clear : (v : View) (c : Carrier) (es : List Entry) → v.held.resend ≡ es → Sound v → AllByRecursion Clear (again_rows v c es)
again_clear v c [] q h = tt
again_clear v c (e ∷ es) q h = (
  another send.OutsidePool _ (λ e. cc, λ e. cc),
  (
    another send.NoCredit _ (λ e. cc, λ e. cc),
    (another send.FrameTooSmall _ (λ e. cc, λ e. cc), again_joins v (goes_settled v (again e)) _ (has_room v h (omega (arith, ap length q))) h (of_sink_clear _, tt)),
  ),
)

resend_clear : (v : View) (c : Carrier) → Sound v → Clear (resend_refusal v c)
resend_clear v c h =
    first_neither
    (row (not (ready v)) (send.LinkState IllegalState) ∷ row (not (none_left v.held.resume)) send.ListsNotEmpty ∷ again_rows v c v.held.resend)
    (another (send.LinkState IllegalState) _ (λ e. cc, λ e. cc), (another send.ListsNotEmpty _ (λ e. cc, λ e. cc), again_clear v c v.held.resend refl h))

-- ---- a send

-- not 13
abbrev New : Option SendError → Type 0
New o = Neither send.TagInTable send.TagInTable o

of_sink_new : (o : Option SinkError) → New (option_map of_sink o)
of_sink_new o = ((of_sink_clear o).1, (of_sink_clear o).1)

entry_new : (v : View) (b : Bool) (os : List (Option SendError)) → Sound v → AllByRecursion New os → AllByRecursion New (cond b [] (entry_rows v) ++ os)
entry_new v true os h k = k
entry_new v false os h k = (another send.TableFull _ (λ e. cc, λ e. cc), (unmet send.TagInTable _ (next_new v h), (another send.NoSeat _ (λ e. cc, λ e. cc), k)))

send_new : (v : View) (c : Carrier) (m : Sendable) → Sound v → New (send_refusal v c m)
send_new v c m h =
    first_neither
    (own_rows v c m ++ sink_row c.sink (share_for v c m) (payload c m) ∷ []) (
      another (send.LinkState IllegalState) _ (λ e. cc, λ e. cc),
      (
        another send.ListsNotEmpty _ (λ e. cc, λ e. cc),
        (
          another send.OutsidePool _ (λ e. cc, λ e. cc),
          (
            another send.MessageSizeExceeded _ (λ e. cc, λ e. cc),
            (
              another send.NoCredit _ (λ e. cc, λ e. cc),
              (another send.FrameTooSmall _ (λ e. cc, λ e. cc), entry_new v (goes_settled v m) _ h (of_sink_new _, tt)),
            ),
          ),
        ),
      ),
    )

-- ---- a detach

fits_back : (v : View) → Sound v → overfull v ≡ false
fits_back v h = let r = h.room in let l = length-append (listed v.held.resume) v.held.resend in grind (arith, nat_tests)

none_clash : (v : View) → Sound v → clash (put_back v.held) v.held.table ≡ false
none_clash v h = no_clash (put_back v.held) v.held.table (λ t. omega (arith, h.single t, tally_++ t (listed v.held.resume) v.held.resend))

detach_rows_clear : (v : View) (closed : Bool) → Sound v
    → AllByRecursion (Neither detach.TableFull detach.TagInTable) (cond closed [] (row (overfull v) detach.TableFull ∷ row (clash (put_back v.held) v.held.table) detach.TagInTable ∷ []))
detach_rows_clear v true h = tt
detach_rows_clear v false h = (unmet detach.TableFull _ (fits_back v h), (unmet detach.TagInTable _ (none_clash v h), tt))

detach_clear : (v : View) (closed : Bool) → Sound v → Neither detach.TableFull detach.TagInTable (detach_refusal v closed)
detach_clear v closed h =
    first_neither
    (stuck (after_detach v.state closed) detach.IllegalState
    ∷ cond closed [] (row (overfull v) detach.TableFull ∷ row (clash (put_back v.held) v.held.table) detach.TagInTable ∷ []))
    (another detach.IllegalState _ (λ e. cc, λ e. cc), detach_rows_clear v closed h)

pub never_in_the_way : (v : View) → Sound v → v.rooms.table ≤ v.rooms.resend → NeverInTheWay v
never_in_the_way v h m = record { send = λ c s. (send_new v c s h).0; work = λ c. work_clear v c h m; resend = λ c. resend_clear v c h; detach = λ closed. detach_clear v closed h }

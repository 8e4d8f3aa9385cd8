-- What every link of a run keeps: all that it holds has room in its table, under tags that stand once and are none of those
-- to come, and its count does not wrap.
use Rattle.std.proofs.Common.{◌≡◌, ℕ, ◌+◌, ◌<◌, ◌≤◌, Bool, true, false, ◌||◌, List, [], ◌∷◌, cond, length, Some, None, Option, sym, refl, ap, subst, arith, length-append}
use Rattle.std.proofs.lemmas.Bool.Decides.{nat_tests}
use Rattle.std.specs.List.{AllByRecursion}
use Rattle.std.specs.Prelude.{not, ◌==◌}
use Rattle.amqp.specs.declared.error.LinkStateError.TheVariants.{IllegalState}
use Rattle.amqp.specs.declared.error.SendError.TheVariants as fault
use Rattle.amqp.specs.declared.state.DeliveryState.{DeliveryState}
use Rattle.amqp.specs.declared.tag.DeliveryTag.{DeliveryTag}
use Rattle.amqp.specs.Tags.{tag_of}
use Rattle.unsettled.specs.declared.message.UnsettledMessage.{UnsettledMessage}
use Rattle.unsettled.specs.Tables.{same_tag, entry_of, look}
use Rattle.unsettled.proofs.Same.{same_tag_decides}
use Rattle.link.specs.declared.delivery.Disposal.{Disposal}
use Rattle.link.specs.declared.delivery.Sendable.{Sendable}
use Rattle.link.specs.declared.flow.LinkFlowState.{LinkFlowState}
use Rattle.link.specs.declared.resumption.ResumingDelivery.{ResumingDelivery}
use Rattle.link.specs.declared.resumption.ResumingDelivery.TheVariants as item
use Rattle.link.specs.Attaching.{open_refusal, opened, attach_refusal, late_refusal, attached}
use Rattle.link.specs.Calls.{Call, Open, Attach, Flow, Send, Disposition, Dispose, Work, Resend, Detach, Look, Collect, turn}
use Rattle.link.specs.Credit.{credit_after, drained}
use Rattle.link.specs.Detaching.{detach_refusal, detached}
use Rattle.link.specs.Disposing.{disposed, disposed_at, disposed_as, recording, dispose_refusal, sends_settled, disposed_here, disposed_here_at, disposed_here_as}
use Rattle.link.specs.Outcomes.{ended}
use Rattle.link.specs.Resending.{again, sent_again, again_rows, again_as, again_turn, resend_refusal, resent}
use Rattle.link.specs.Resuming.{listed}
use Rattle.link.specs.Rows.{row, first, unless}
use Rattle.link.specs.Sending.{Carrier, first_sent, goes_settled, next_tag, busy, none_left, ready, own_rows, send_refusal, sent, sent_as}
use Rattle.link.specs.Turns.{Turn, stay, landed}
use Rattle.link.specs.Views.{View, Entry}
use Rattle.link.specs.Working.{work_refusal, item_turn, worked}
use Rattle.link.proofs.Rows.{all_none, row_off}
use Rattle.link.proofs.Sending.{clear, own_clear}
use Rattle.runs.specs.Runs.{Run, made, ◌▹◌, after, one}
use Rattle.runs.proofs.Tables.{found}
use Rattle.runs.proofs.Entries.{tally, tally_++}
use Rattle.runs.proofs.Held.{entries, tags, Fewer, same_held, attached_fewer, removed_fewer, put_fewer, worked_fewer, detached_fewer}
use Rattle.runs.proofs.Tags.{tags_apart}

pub record Sound (v : View) : Type 0 where
  -- all that is held has room in the table
  pub room : entries v.held ≤ v.rooms.table
  -- no tag is held twice
  pub single : (t : DeliveryTag) → tags t v.held ≤ 1
  -- no tag that is still to come is held
  pub unused : (n : ℕ) → v.flow.delivery_count ≤ n → n ≤ 4294967295 → tags (tag_of n) v.held ≡ 0
  pub span : v.flow.delivery_count + v.flow.link_credit ≤ 4294967295

pub single_in_table : (v : View) → Sound v → (t : DeliveryTag) → tally t v.held.table ≤ 1
single_in_table v h t = omega (arith, h.single t)

-- a turn that keeps it, and after which the count is no smaller
pub record Steady (v : View) (u : Turn) : Type 0 where
  pub keeps : Sound (landed v u)
  pub rises : v.flow.delivery_count ≤ u.flow.delivery_count

-- no more is held, and the count is no smaller
falls : (v : View) (u : Turn) → Sound v → Fewer u.held v.held → v.flow.delivery_count ≤ u.flow.delivery_count
    → u.flow.delivery_count + u.flow.link_credit ≤ 4294967295 → Steady v u
falls v u h f r s =
    record {
      keeps = record {
        room = omega (arith, h.room, f.entries);
        single = λ t. omega (arith, h.single t, f.tags t);
        unused = λ n k b. omega (arith, f.tags (tag_of n), h.unused n (omega arith) b);
        span = s;
      };
      rises = r;
    }

-- the credit and the count stay
shifts : (v : View) (u : Turn) → Sound v → u.flow ≡ v.flow → Fewer u.held v.held → Steady v u
shifts v u h e f =
    falls v u h f (omega (arith, ap (λ g. g.delivery_count) e)) (omega (arith, h.span, ap (λ g. g.delivery_count) e, ap (λ g. g.link_credit) e))

still : (v : View) (u : Turn) → Sound v → u.held ≡ v.held → u.flow ≡ v.flow → Steady v u
still v u h e f = shifts v u h f (same_held u.held v.held e)

stays : (v : View) → Sound v → Steady v (stay v)
stays v h = still v (stay v) h refl refl

-- one more may be held, under the next tag
gains : (v : View) (u : Turn) → Sound v → entries u.held ≤ v.rooms.table → ((t : DeliveryTag) → tags t u.held ≤ tags t v.held + one (same_tag (next_tag v) t))
    → u.flow.delivery_count ≡ v.flow.delivery_count + 1 → u.flow.delivery_count + u.flow.link_credit ≤ 4294967295 → Steady v u
gains v u h r w c s =
    record {
      keeps = record {
        room = r;
        single = λ t. go t (same_tag (next_tag v) t) refl (w t);
        unused = λ n k b.
            let z : one (same_tag (next_tag v) (tag_of n)) ≡ 0 = ap one (tags_apart v.flow.delivery_count n (omega arith) b) in
            omega (arith, w (tag_of n), h.unused n (omega arith) b);
        span = s;
      };
      rises = omega arith;
    }
  where
    go : (t : DeliveryTag) (b : Bool) → same_tag (next_tag v) t ≡ b → tags t u.held ≤ tags t v.held + one b → tags t u.held ≤ 1
    go t false q k = omega (arith, h.single t)
    go t true q k =
        let e : next_tag v ≡ t = (same_tag_decides (next_tag v) t).0 q in
        let z : tags t v.held ≡ 0 = subst (λ (x : DeliveryTag). tags x v.held ≡ 0) e (h.unused v.flow.delivery_count (omega arith) (omega (arith, h.span))) in
        omega arith

accepted : {E : Type 0} (v : View) (o : Option E) (u : Turn) → Sound v → (o ≡ None → Steady v u) → Steady v (unless o (stay v) u)
accepted v None u h k = k refl
accepted v (Some e) u h k = stays v h

-- ---- flow

credit_fits : (c d : Option ℕ) (f : LinkFlowState) → f.delivery_count + f.link_credit ≤ 4294967295 → f.delivery_count + credit_after c d f ≤ 4294967295
credit_fits None d f h = h
credit_fits (Some c) d f h = omega arith

drained_span : (b : Bool) (credit : ℕ) (f : LinkFlowState) → f.delivery_count + credit ≤ 4294967295
    → ((drained b credit f).delivery_count + (drained b credit f).link_credit ≤ 4294967295) × (f.delivery_count ≤ (drained b credit f).delivery_count)
drained_span true credit f h = (omega arith, omega arith)
drained_span false credit f h = (h, omega arith)

-- ---- send

-- an accepted send finds both lists empty
not_busy : (v : View) (c : Carrier) (m : Sendable) → first (own_rows v c m) ≡ None → entries v.held ≡ length v.held.table
not_busy v c m h =
    let n = all_none (own_rows v c m) h in
    lists (row_off (busy v) fault.ListsNotEmpty n.1.0)
  where
    none_listed : (is : List ResumingDelivery) → length is ≡ 0 → length (listed is) ≡ 0
    none_listed [] e = refl
    none_listed (i ∷ is) e = absurd (omega arith)

    lists : busy v ≡ false → entries v.held ≡ length v.held.table
    lists b =
        let resume : length v.held.resume ≡ 0 = grind (arith, nat_tests) in
        let resend : length v.held.resend ≡ 0 = grind (arith, nat_tests) in
        omega (arith, none_listed v.held.resume resume)

sent_steady : (v : View) (c : Carrier) (m : Sendable) (b : Bool) → goes_settled v m ≡ b → first (own_rows v c m) ≡ None → Sound v → Steady v (sent_as b v m)
sent_steady v c m true q o h =
    let k = clear v c m o in
    falls v (sent_as true v m) h (same_held v.held v.held refl) (omega (arith, h.span, k.credit)) (omega (arith, h.span, k.credit))
sent_steady v c m false q o h =
    let k = clear v c m o in
    let room : length v.held.table < v.rooms.table = let r = k.room q in grind (arith, nat_tests) in
    gains v (sent_as false v m) h
    (omega (arith, length-append v.held.table (first_sent v m ∷ []), not_busy v c m o))
    (λ t. omega (arith, tally_++ t v.held.table (first_sent v m ∷ [])))
    (omega (arith, h.span, k.credit)) (omega (arith, h.span, k.credit))

-- ---- dispositions

-- a turn by the entry that a tag finds
by_found : (v : View) (t : DeliveryTag) (f : Option UnsettledMessage → Turn) → Steady v (f None) → ((x : Entry) → found t v.held.table ≡ Some x → Steady v (f (Some x.entry)))
    → Steady v (f (look t v.held.table))
by_found v t f k l = go (found t v.held.table) refl
  where
    go : (o : Option Entry) → found t v.held.table ≡ o → Steady v (f (look t v.held.table))
    go None e = subst (λ (o : Option UnsettledMessage). Steady v (f o)) (sym (ap entry_of e)) k
    go (Some x) e = subst (λ (o : Option UnsettledMessage). Steady v (f o)) (sym (ap entry_of e)) (l x e)

disposed_steady : (v : View) (t : DeliveryTag) (b : Bool) (s : Option DeliveryState) → Sound v → Steady v (disposed v t b s)
disposed_steady v t b s h = by_found v t (λ o. disposed_at o t b s v) (stays v h) (at (b || ended s))
  where
    at : (b : Bool) (x : Entry) → found t v.held.table ≡ Some x → Steady v (disposed_as b t s x.entry v)
    at true x f = shifts v (disposed_as true t s x.entry v) h refl (removed_fewer v t x f)
    at false x f = shifts v (disposed_as false t s x.entry v) h refl (put_fewer v t (recording s x.entry) x f)

here_steady : (v : View) (d : Disposal) → Sound v → Steady v (disposed_here v d)
here_steady v d h = sends (sends_settled v)
  where
    at : (b : Bool) (x : Entry) → found d.delivery_tag v.held.table ≡ Some x → Steady v (disposed_here_as b d x.entry v)
    at true x f = shifts v (disposed_here_as true d x.entry v) h refl (removed_fewer v d.delivery_tag x f)
    at false x f = shifts v (disposed_here_as false d x.entry v) h refl (put_fewer v d.delivery_tag (recording (Some d.state) x.entry) x f)

    sends : (b : Bool) → Steady v (cond b (stay v) (disposed_here_at (look d.delivery_tag v.held.table) d v))
    sends true = stays v h
    sends false = by_found v d.delivery_tag (λ o. disposed_here_at o d v) (stays v h) (at d.settled)

-- ---- work

work_flow : (v : View) (pool : List ℕ) (is : List ResumingDelivery) → (item_turn v pool is).flow ≡ v.flow
work_flow v pool [] = refl
work_flow v pool (item.Resend e ∷ is) = refl
work_flow v pool (item.Resume e p ∷ is) = refl
work_flow v pool (item.Abort e ∷ is) = refl
work_flow v pool (item.RestateOutcome e ∷ is) = refl
work_flow v pool (item.Settling t f o ∷ is) = refl

-- ---- resend

-- an accepted resend is refused by no row of its first entry
again_clear : (v : View) (c : Carrier) → resend_refusal v c ≡ None → AllByRecursion (λ o. o ≡ None) (again_rows v c v.held.resend)
again_clear v c e =
    let n = all_none
    (row (not (ready v)) (fault.LinkState IllegalState) ∷ row (not (none_left v.held.resume)) fault.ListsNotEmpty ∷ again_rows v c v.held.resend) e in
    n.1.1

again_credit : (v : View) (c : Carrier) (e : Entry) (es : List Entry) → AllByRecursion (λ o. o ≡ None) (again_rows v c (e ∷ es)) → 0 < v.flow.link_credit
again_credit v c e es n =
    let z : (v.flow.link_credit == 0) ≡ false = row_off _ fault.NoCredit n.1.0 in
    grind (arith, nat_tests)

again_steady : (v : View) (b : Bool) (e : Entry) (es : List Entry) → v.held.resend ≡ e ∷ es → 0 < v.flow.link_credit → Sound v → Steady v (again_as b v e es)
again_steady v true e es q k h =
    falls v (again_as true v e es) h
    (record { entries = omega (arith, ap length q); tags = λ t. omega (arith, ap (tally t) q) })
    (omega (arith, h.span)) (omega (arith, h.span))
again_steady v false e es q k h =
    gains v (again_as false v e es) h
    (omega (arith, h.room, ap length q, length-append v.held.table (sent_again v e ∷ [])))
    (λ t. omega (arith, ap (tally t) q, tally_++ t v.held.table (sent_again v e ∷ [])))
    (omega (arith, h.span)) (omega (arith, h.span))

resent_steady : (v : View) (c : Carrier) (es : List Entry) → v.held.resend ≡ es → AllByRecursion (λ o. o ≡ None) (again_rows v c v.held.resend) → Sound v → Steady v (again_turn v es)
resent_steady v c [] q n h = stays v h
resent_steady v c (e ∷ es) q n h =
    again_steady v (goes_settled v (again e)) e es q
    (again_credit v c e es (subst (λ (l : List Entry). AllByRecursion (λ o. o ≡ None) (again_rows v c l)) q n)) h

-- ---- all calls

pub steady : (v : View) (c : Call) → Sound v → Steady v (turn v c)
steady v (Open handle incomplete) h = accepted v (open_refusal v incomplete) (opened v handle incomplete) h (λ _. still v (opened v handle incomplete) h refl refl)
steady v (Attach a pool) h = accepted v (attach_refusal v a pool) (attached v a) h (λ _. shifts v (attached v a) h refl (attached_fewer v a (late_refusal v a)))
steady v (Flow i) h =
    let d = drained_span i.drain (credit_after i.link_credit i.delivery_count v.flow) v.flow (credit_fits i.link_credit i.delivery_count v.flow h.span) in
    falls v (turn v (Flow i)) h (same_held v.held v.held refl) d.1 d.0
steady v (Send c m) h = accepted v (send_refusal v c m) (sent v m) h (λ e. sent_steady v c m (goes_settled v m) refl (own_clear v c m e) h)
steady v (Disposition t b s) h = disposed_steady v t b s h
steady v (Dispose sink d) h = accepted v (dispose_refusal v sink) (disposed_here v d) h (λ _. here_steady v d h)
steady v (Work c) h =
    accepted v (work_refusal v c) (worked v c) h (λ _. shifts v (worked v c) h (work_flow v c.pool v.held.resume) (worked_fewer v c.pool v.held.resume refl))
steady v (Resend c) h = accepted v (resend_refusal v c) (resent v) h (λ e. resent_steady v c v.held.resend refl (again_clear v c e) h)
steady v (Detach closed error) h =
    accepted v (detach_refusal v closed) (detached v closed error) h (λ _. shifts v (detached v closed error) h refl (detached_fewer closed v.held))
steady v (Look n) h = stays v h
steady v (Collect n) h = still v (turn v (Collect n)) h refl refl

pub sound : (r : Run) → Sound (after r)
sound (made m) = record { room = omega arith; single = λ t. omega arith; unused = λ n a b. refl; span = omega (arith, m.counted) }
sound (r ▹ c) = (steady (after r) c (sound r)).keeps

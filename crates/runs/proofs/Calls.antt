-- What stands under a number after any call is what the call makes of its life.
use Rattle.std.proofs.Common.{◌≡◌, ℕ, ◌≤◌, Bool, true, false, cond, ◌||◌, List, [], is_some, Some, None, Option, refl, ap, subst}
use Rattle.std.specs.List.{flat_map}
use Rattle.amqp.specs.declared.condition.AmqpError.{AmqpError}
use Rattle.amqp.specs.declared.error.SenderAttachError.{SenderAttachError}
use Rattle.amqp.specs.declared.state.DeliveryState.{DeliveryState}
use Rattle.amqp.specs.declared.tag.DeliveryTag.{DeliveryTag}
use Rattle.sink.specs.Frames.{Model}
use Rattle.unsettled.specs.declared.message.UnsettledMessage.{UnsettledMessage}
use Rattle.unsettled.specs.Tables.{same_tag, look}
use Rattle.link.specs.declared.attach.Attach.{Attach as RemoteAttach}
use Rattle.link.specs.declared.delivery.Disposal.{Disposal}
use Rattle.link.specs.declared.delivery.Outcome.{Outcome}
use Rattle.link.specs.declared.delivery.Sendable.{Sendable}
use Rattle.link.specs.declared.resumption.Resumption.{Resumption}
use Rattle.link.specs.Attaching.{open_refusal, opened, attach_refusal, late_refusal, attached_state, attached_settings, resumed}
use Rattle.link.specs.Calls.{Call, Open, Attach, Flow, Send, Disposition, Dispose, Work, Resend, Detach, Look, Collect, refused, turn}
use Rattle.link.specs.Detaching.{detach_refusal, detached}
use Rattle.link.specs.Disposing.{disposed, disposed_at, disposed_as, dispose_refusal, sends_settled, disposed_here, disposed_here_at, disposed_here_as}
use Rattle.link.specs.Outcomes.{ended, recorded, outcome_of}
use Rattle.link.specs.Resending.{resend_refusal, resent}
use Rattle.link.specs.Resuming.{end_of}
use Rattle.link.specs.Rows.{unless}
use Rattle.link.specs.Sending.{Carrier, goes_settled, next_number, send_refusal, sent}
use Rattle.link.specs.Turns.{Turn, moved, stay}
use Rattle.link.specs.Views.{View, Entry}
use Rattle.link.specs.Working.{work_refusal, worked}
use Rattle.runs.specs.Lives.{in_table, in_resume_list, in_resend_list, Life, unborn, standing, over, from_unborn, from_table, from_resume_list, from_resend_list, next_life, disposed_life, disposed_here_life, works_on, resends, of, items_of}
use Rattle.runs.proofs.Words.{among, outcomes}
use Rattle.runs.proofs.Onward.{everywhere, Stands, Onward, unmoved, after_send, send_onward, disposal_turn, disposal_at, disposal_life, after_disposal, disposal_onward}
use Rattle.runs.proofs.Returning.{attach_onward, after_detach, detach_onward, after_work, work_onward, after_resend, resend_onward}
use Rattle.runs.proofs.Sound.{Sound, single_in_table}

-- a turn that touches no delivery
idle : (n : ℕ) (x : Life) (v : View) (u : Turn) (y : Life) → Stands n x v.held → y ≡ x → u.held ≡ v.held → u.ends ≡ [] → u.begun ≡ [] → Onward n x u y
idle n x v u y h e k w b =
    unmoved n x v.held u y h e (ap (λ l. of n l.table) k) (ap (λ l. items_of n l.resume) k) (ap (λ l. of n l.resend) k) (ap (outcomes n) w) (ap (among n) b)

-- a call that makes nothing of any life
same_life : (v : View) (c : Call) (n : ℕ) → from_unborn v c n ≡ unborn → ((e : Entry) → from_table v c e ≡ standing in_table e)
    → ((r : Resumption) (e : Entry) → from_resume_list v c n r e ≡ standing (in_resume_list r) e) → ((e : Entry) → from_resend_list v c n e ≡ standing in_resend_list e)
    → (x : Life) → next_life v c n x ≡ x
same_life v c n a b i s = everywhere (next_life v c n) (λ x. x) a b i s (λ _. refl)

pub both : {X : Type 0} (b : Bool) (x y : X) → y ≡ x → cond b x y ≡ x
both true x y e = refl
both false x y e = e

-- a refused call changes nothing
gate : {E : Type 0} (n : ℕ) (x : Life) (v : View) (o : Option E) (u : Turn) (y : Life) → Stands n x v.held → Onward n x u y → Onward n x (unless o (stay v) u) (cond (is_some o) x y)
gate n x v None u y h k = k
gate n x v (Some e) u y h k = idle n x v (stay v) x h refl refl refl refl

-- ---- each call, by what it makes of a life

send_next : (v : View) (c : Carrier) (m : Sendable) (n : ℕ) (x : Life) → after_send v m n (goes_settled v m) x ≡ next_life v (Send c m) n x
send_next v c m n = everywhere (after_send v m n (goes_settled v m)) (next_life v (Send c m) n) refl (λ _. refl) (λ _ _. refl) (λ _. refl) (λ _. refl)

work_next : (v : View) (c : Carrier) (n : ℕ) (x : Life) → after_work c.pool (works_on n v.held.resume) x ≡ next_life v (Work c) n x
work_next v c n = everywhere (after_work c.pool (works_on n v.held.resume)) (next_life v (Work c) n) refl (λ _. refl) (λ _ _. refl) (λ _. refl) (λ _. refl)

resend_next : (v : View) (c : Carrier) (n : ℕ) (x : Life) → after_resend v (resends n v.held.resend) x ≡ next_life v (Resend c) n x
resend_next v c n = everywhere (after_resend v (resends n v.held.resend)) (next_life v (Resend c) n) refl (λ _. refl) (λ _ _. refl) (λ _. refl) (λ _. refl)

detach_next : (v : View) (closed : Bool) (error : Option AmqpError) (n : ℕ) (x : Life) → after_detach closed error x ≡ next_life v (Detach closed error) n x
detach_next v closed error n = everywhere (after_detach closed error) (next_life v (Detach closed error) n) refl (λ _. refl) (λ _ _. refl) (λ _. refl) (λ _. refl)

-- the outcome of a delivery that a disposition of the peer's ends, and of one that our own ends
abbrev by_peer : Option DeliveryState → UnsettledMessage → Outcome
by_peer s m = outcome_of (recorded m.state s)

abbrev by_us : UnsettledMessage → Outcome
by_us m = outcome_of m.state

disposed_turn : (v : View) (t : DeliveryTag) (s : Option DeliveryState) (b : Bool) (o : Option UnsettledMessage) → disposal_at v t s (by_peer s) (b || ended s) o ≡ disposed_at o t b s v
disposed_turn v t s b None = refl
disposed_turn v t s b (Some m) = go (b || ended s)
  where
    go : (c : Bool) → disposal_turn v t s (by_peer s) c m ≡ disposed_as c t s m v
    go true = refl
    go false = refl

disposed_next : (v : View) (t : DeliveryTag) (s : Option DeliveryState) (b : Bool) (n : ℕ) (x : Life) → after_disposal t s (by_peer s) (b || ended s) x ≡ next_life v (Disposition t b s) n x
disposed_next v t s b n =
    everywhere (after_disposal t s (by_peer s) (b || ended s)) (next_life v (Disposition t b s) n) refl
    (λ e. ap (λ y. cond (same_tag e.tag t) y (standing in_table e)) (go e (b || ended s))) (λ _ _. refl) (λ _. refl) (λ _. refl)
  where
    go : (e : Entry) (c : Bool) → disposal_life s (by_peer s) c e ≡ disposed_life c s e
    go e true = refl
    go e false = refl

disposed_onward : (v : View) (t : DeliveryTag) (s : Option DeliveryState) (b : Bool) (n : ℕ) (x : Life) → Sound v → Stands n x v.held → Onward n x (disposed v t b s) (next_life v (Disposition t b s) n x)
disposed_onward v t s b n x k h =
    subst (λ (u : Turn). Onward n x u (next_life v (Disposition t b s) n x)) (disposed_turn v t s b (look t v.held.table))
    (subst (Onward n x (disposal_at v t s (by_peer s) (b || ended s) (look t v.held.table))) (disposed_next v t s b n x)
    (disposal_onward v n t s (by_peer s) (b || ended s) x (single_in_table v k t) h))

here_turn : (v : View) (d : Disposal) (o : Option UnsettledMessage) → disposal_at v d.delivery_tag (Some d.state) by_us d.settled o ≡ disposed_here_at o d v
here_turn v d None = refl
here_turn v d (Some m) = go d.settled
  where
    go : (c : Bool) → disposal_turn v d.delivery_tag (Some d.state) by_us c m ≡ disposed_here_as c d m v
    go true = refl
    go false = refl

-- what it makes of a life, unless the link settles every delivery as it sends it
abbrev here_life : (sends_settled : Bool) → Disposal → Entry → Life
here_life b d e = cond b (standing in_table e) (cond (same_tag e.tag d.delivery_tag) (disposed_here_life d.settled d.state e) (standing in_table e))

abbrev after_here : (sends_settled : Bool) → Disposal → Life → Life
after_here b d unborn = unborn
after_here b d (standing in_table e) = here_life b d e
after_here b d (standing (in_resume_list r) e) = standing (in_resume_list r) e
after_here b d (standing in_resend_list e) = standing in_resend_list e
after_here b d (over o) = over o

here_next : (v : View) (sink : Model) (d : Disposal) (n : ℕ) (x : Life) → after_here (sends_settled v) d x ≡ next_life v (Dispose sink d) n x
here_next v sink d n = everywhere (after_here (sends_settled v) d) (next_life v (Dispose sink d) n) refl (λ _. refl) (λ _ _. refl) (λ _. refl) (λ _. refl)

none_here : (d : Disposal) (x : Life) → after_here true d x ≡ x
none_here d = everywhere (after_here true d) (λ x. x) refl (λ _. refl) (λ _ _. refl) (λ _. refl) (λ _. refl)

told_here : (d : Disposal) (x : Life) → after_disposal d.delivery_tag (Some d.state) by_us d.settled x ≡ after_here false d x
told_here d =
    everywhere (after_disposal d.delivery_tag (Some d.state) by_us d.settled) (after_here false d) refl
    (λ e. ap (λ y. cond (same_tag e.tag d.delivery_tag) y (standing in_table e)) (go e d.settled)) (λ _ _. refl) (λ _. refl) (λ _. refl)
  where
    go : (e : Entry) (c : Bool) → disposal_life (Some d.state) by_us c e ≡ disposed_here_life c d.state e
    go e true = refl
    go e false = refl

here_onward : (v : View) (d : Disposal) (n : ℕ) (x : Life) (b : Bool) → Sound v → Stands n x v.held
    → Onward n x (cond b (stay v) (disposed_here_at (look d.delivery_tag v.held.table) d v)) (after_here b d x)
here_onward v d n x true k h = idle n x v (stay v) (after_here true d x) h (none_here d x) refl refl refl
here_onward v d n x false k h =
    subst (λ (u : Turn). Onward n x u (after_here false d x)) (here_turn v d (look d.delivery_tag v.held.table))
    (subst (Onward n x (disposal_at v d.delivery_tag (Some d.state) by_us d.settled (look d.delivery_tag v.held.table))) (told_here d x)
    (disposal_onward v n d.delivery_tag (Some d.state) by_us d.settled x (single_in_table v k d.delivery_tag) h))

-- an attach is refused before its move or after it
attached_onward : (v : View) (a : RemoteAttach) (pool : List ℕ) (n : ℕ) (x : Life) → Stands n x v.held → (o p : Option SenderAttachError)
    → Onward n x
    (unless o (stay v)
    (moved v (attached_state v a) v.output (Some a.handle) (attached_settings v a) (unless p v.held (resumed v a)) (unless p [] (flat_map (end_of a) v.held.table))))
    (cond (is_some o || is_some p) x (next_life v (Attach a pool) n x))
attached_onward v a pool n x h (Some r) p = idle n x v (stay v) x h refl refl refl refl
attached_onward v a pool n x h None (Some r) =
    idle n x v (moved v (attached_state v a) v.output (Some a.handle) (attached_settings v a) v.held []) x h refl refl refl refl
attached_onward v a pool n x h None None = attach_onward v n a pool (attached_state v a) v.output (Some a.handle) (attached_settings v a) x h

pub onward : (v : View) (c : Call) (n : ℕ) (x : Life) → Sound v → Stands n x v.held → (next_number v ≤ n → x ≡ unborn)
    → Onward n x (turn v c) (cond (refused v c) x (next_life v c n x))
onward v (Open handle incomplete) n x s h f =
    gate n x v (open_refusal v incomplete) (opened v handle incomplete) (next_life v (Open handle incomplete) n x) h
    (idle n x v (opened v handle incomplete) _ h (same_life v (Open handle incomplete) n refl (λ _. refl) (λ _ _. refl) (λ _. refl) x) refl refl refl)
onward v (Attach a pool) n x s h f = attached_onward v a pool n x h (attach_refusal v a pool) (late_refusal v a)
onward v (Flow i) n x s h f = idle n x v (turn v (Flow i)) _ h (same_life v (Flow i) n refl (λ _. refl) (λ _ _. refl) (λ _. refl) x) refl refl refl
onward v (Send c m) n x s h f =
    gate n x v (send_refusal v c m) (sent v m) (next_life v (Send c m) n x) h
    (subst (Onward n x (sent v m)) (send_next v c m n x) (send_onward v m n x (goes_settled v m) h f))
onward v (Disposition t b d) n x s h f = disposed_onward v t d b n x s h
onward v (Dispose sink d) n x s h f =
    gate n x v (dispose_refusal v sink) (disposed_here v d) (next_life v (Dispose sink d) n x) h
    (subst (Onward n x (disposed_here v d)) (here_next v sink d n x) (here_onward v d n x (sends_settled v) s h))
onward v (Work c) n x s h f =
    gate n x v (work_refusal v c) (worked v c) (next_life v (Work c) n x) h (subst (Onward n x (worked v c)) (work_next v c n x) (work_onward v n c.pool x h))
onward v (Resend c) n x s h f =
    gate n x v (resend_refusal v c) (resent v) (next_life v (Resend c) n x) h (subst (Onward n x (resent v)) (resend_next v c n x) (resend_onward v n x h))
onward v (Detach closed error) n x s h f =
    gate n x v (detach_refusal v closed) (detached v closed error) (next_life v (Detach closed error) n x) h
    (subst (Onward n x (detached v closed error)) (detach_next v closed error n x) (detach_onward v n closed error x h))
onward v (Look k) n x s h f =
    idle n x v (stay v) _ h (both (refused v (Look k)) x (next_life v (Look k) n x) (same_life v (Look k) n refl (λ _. refl) (λ _ _. refl) (λ _. refl) x)) refl refl refl
onward v (Collect k) n x s h f =
    idle n x v (turn v (Collect k)) _ h (both (refused v (Collect k)) x (next_life v (Collect k) n x) (same_life v (Collect k) n refl (λ _. refl) (λ _ _. refl) (λ _. refl) x)) refl refl refl

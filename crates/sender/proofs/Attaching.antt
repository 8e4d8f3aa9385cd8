-- What an attach comes to, from its refusals and its move.
use Rattle.std.proofs.Common.{◌≡◌, ℕ, ◌+◌, ◌<◌, ◌≤◌, List, [], ◌++◌, length, get_or, take, length-append, Some, None, Ok, Err, sym, ap, ◌∙◌, ap₂, arith}
use Rattle.std.proofs.lemmas.Bool.Decides.{nat_tests}
use Rattle.std.proofs.lemmas.Grind.{flat_map-append}
use Rattle.std.proofs.lemmas.List.{append-nil, append_assoc}
use Rattle.std.specs.List.{flat_map}
use Rattle.std.specs.Option.{option_or}
use Rattle.amqp.specs.declared.error.SenderAttachError.{SenderAttachError}
use Rattle.amqp.specs.declared.error.SenderAttachError.TheVariants as fault
use Rattle.link.specs.declared.attach.Attach.{Attach as RemoteAttach}
use Rattle.link.specs.declared.resumption.ResumingDelivery.{ResumingDelivery}
use Rattle.link.specs.declared.resumption.Resumption.{Resumption}
use Rattle.link.specs.declared.resumption.Resumption.TheVariants.{Resend, Resume, Abort, RestateOutcome, End, Settle}
use Rattle.link.specs.declared.seat.Seat.{Seat}
use Rattle.link.specs.declared.state.LinkState.{LinkState}
use Rattle.link.specs.Attaching.{attach_refusal, late_refusal, attach_answer, exchange, attached, attached_state, attached_settings, resumed, too_many, attach_rows}
use Rattle.link.specs.Calls.{Attach, step}
use Rattle.link.specs.Resuming.{item_for, end_of}
use Rattle.link.specs.Rows.{gated, unless}
use Rattle.link.specs.Turns.{End as Ending, tell_all, landed, stay, moved, holding}
use Rattle.link.specs.Views.{View, Entry}
use Rattle.sender.proofs.Detaching.{more, told_more}
use Rattle.link.proofs.Rows.{all_none, row_off}

pub refused_answer : (v : View) (a : RemoteAttach) (pool : List ℕ) (e : SenderAttachError) → attach_refusal v a pool ≡ Some e → Err e ≡ attach_answer v a pool
refused_answer v a pool e h = sym (ap (λ o. gated (option_or o (late_refusal v a)) (exchange v a)) h)

pub refused_link : (v : View) (a : RemoteAttach) (pool : List ℕ) (e : SenderAttachError) → attach_refusal v a pool ≡ Some e → v ≡ step v (Attach a pool)
refused_link v a pool e h = sym (ap (λ o. landed v (unless o (stay v) (attached v a))) h)

pub late_answer : (v : View) (a : RemoteAttach) (pool : List ℕ) (e : SenderAttachError) → attach_refusal v a pool ≡ None → late_refusal v a ≡ Some e → Err e ≡ attach_answer v a pool
late_answer v a pool e n h = sym (ap₂ (λ o p. gated (option_or o p) (exchange v a)) n h)

pub done_answer : (v : View) (a : RemoteAttach) (pool : List ℕ) → attach_refusal v a pool ≡ None → late_refusal v a ≡ None → Ok (exchange v a) ≡ attach_answer v a pool
done_answer v a pool n h = sym (ap₂ (λ o p. gated (option_or o p) (exchange v a)) n h)

-- the link once it has moved to a state, its deliveries where they were
abbrev pub moved_to : LinkState → View → RemoteAttach → View
moved_to s v a = landed v (moved v s v.output (Some a.handle) (attached_settings v a) v.held [])

module _ (v : View) (a : RemoteAttach) (pool : List ℕ) (n : attach_refusal v a pool ≡ None) (s : LinkState) (e : s ≡ attached_state v a) (w : View) (m : w ≡ moved_to s v a) where
  accepted : step v (Attach a pool) ≡ landed v (attached v a)
  accepted = ap (λ o. landed v (unless o (stay v) (attached v a))) n

  pub late_link : (x : SenderAttachError) → late_refusal v a ≡ Some x → w ≡ step v (Attach a pool)
  late_link x h =
      m ∙ ap (λ t. moved_to t v a) e
      ∙ sym (accepted
      ∙ ap (λ o. landed v (moved v (attached_state v a) v.output (Some a.handle) (attached_settings v a) (unless o v.held (resumed v a)) (unless o [] (flat_map (end_of a) v.held.table)))) h)

  -- then the table is emptied
  pub done_link : (x : View) → late_refusal v a ≡ None → x ≡ landed w (holding w (resumed w a) (flat_map (end_of a) w.held.table)) → x ≡ step v (Attach a pool)
  done_link x h f =
      f ∙ ap (λ (u : View). landed u (holding u (resumed u a) (flat_map (end_of a) u.held.table))) (m ∙ ap (λ t. moved_to t v a) e)
      ∙ sym (accepted
      ∙ ap (λ o. landed v (moved v (attached_state v a) v.output (Some a.handle) (attached_settings v a) (unless o v.held (resumed v a)) (unless o [] (flat_map (end_of a) v.held.table)))) h)

-- an attach that is not refused finds room for all of the table
pub room : (v : View) (a : RemoteAttach) (pool : List ℕ) → attach_refusal v a pool ≡ None → length v.held.resume + length v.held.table ≤ v.rooms.resume
room v a pool n =
    let r = row_off (too_many v a) fault.TooManyUnsettled (all_none (attach_rows v a pool) n).1.1.0 in
    grind (arith, nat_tests)

-- one more is listed, or has ended
pub listed_more : {X Y : Type 0} (f : X → List Y) (xs : List X) (i : ℕ) (x : X) → x ≡ get_or xs i x → i < length xs → (ts ys zs : List Y) → ys ≡ ts ++ flat_map f (take i xs) → zs ≡ ys ++ f x
    → zs ≡ ts ++ flat_map f (take (i + 1) xs)
listed_more f xs i x at lt ts ys zs h e =
    e ∙ ap (λ l. l ++ f x) h ∙ append_assoc ts (flat_map f (take i xs)) (f x)
    ∙ ap (λ l. ts ++ l) (sym (more (flat_map f) (flat_map-append f) xs i x at lt ∙ ap (λ l. flat_map f (take i xs) ++ l) (append-nil (f x))))

pub ended_more : {X : Type 0} (f : X → List Ending) (xs : List X) (i : ℕ) (x : X) → x ≡ get_or xs i x → i < length xs → (ss ts us : List Seat) → ts ≡ tell_all (flat_map f (take i xs)) ss → us ≡ tell_all (f x) ts
    → us ≡ tell_all (flat_map f (take (i + 1) xs)) ss
ended_more f xs i x at lt ss ts us h e =
    told_more (flat_map f) (flat_map-append f) xs i x at lt ss ts us h (e ∙ ap (λ l. tell_all l ts) (sym (append-nil (f x))))

-- a delivery leaves one item at most
one_item : (r : Resumption) (e : Entry) → length (item_for r e) ≤ 1
one_item Resend e = omega arith
one_item (Resume p) e = omega arith
one_item Abort e = omega arith
one_item RestateOutcome e = omega arith
one_item (End s) e = omega arith
one_item (Settle s) e = omega arith

pub few_more : (r : Resumption) (e : Entry) (ys zs : List ResumingDelivery) (n i : ℕ) → zs ≡ ys ++ item_for r e → length ys ≤ n + i → length zs ≤ n + (i + 1)
few_more r e ys zs n i l h = omega (arith, ap length l, length-append ys (item_for r e), one_item r e)

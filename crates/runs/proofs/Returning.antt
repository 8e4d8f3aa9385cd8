-- What stands under a number after an attach, a work, a resend or a detach is what the call makes of its life.
use Rattle.std.proofs.Common.{◌≡◌, ℕ, Bool, true, false, cond, eqb, List, [], ◌∷◌, ◌++◌, map, Option, sym, refl, ap, ap₂, ◌∙◌, subst}
use Rattle.std.specs.List.{flat_map}
use Rattle.std.proofs.lemmas.List.{append-nil}
use Rattle.amqp.specs.declared.condition.AmqpError.{AmqpError}
use Rattle.link.specs.declared.attach.Attach.{Attach as RemoteAttach}
use Rattle.link.specs.declared.delivery.Outcome.TheVariants.{NoState}
use Rattle.link.specs.declared.resumption.ResumingDelivery.{ResumingDelivery}
use Rattle.link.specs.declared.resumption.ResumingDelivery.TheVariants as item
use Rattle.link.specs.declared.resumption.Resumption.{Resumption}
use Rattle.link.specs.declared.resumption.Resumption.TheVariants as to
use Rattle.link.specs.declared.settings.Settings.{Settings}
use Rattle.link.specs.declared.state.LinkState.{LinkState}
use Rattle.link.specs.Attaching.{resumed}
use Rattle.link.specs.Calls.{Attach}
use Rattle.link.specs.Detaching.{put_back, closed_by, detached}
use Rattle.link.specs.Resending.{again, sent_again, again_as, again_turn}
use Rattle.link.specs.Resuming.{judge, item_for, item_of, end_of, listed}
use Rattle.link.specs.Sending.{goes_settled}
use Rattle.link.specs.Turns.{moved, stay}
use Rattle.link.specs.Views.{View, Held, Entry}
use Rattle.link.specs.Working.{start_in, cut_to, item_turn}
use Rattle.runs.specs.Lives.{in_table, in_resume_list, in_resend_list, Life, unborn, standing, over, judged, worked_life, resent_life, detached_life, next_life, works_on, resends, of, items_of, in_its_table, in_its_resume_list, in_its_resend_list, born}
use Rattle.runs.proofs.Entries.{of_++}
use Rattle.runs.proofs.Items.{items_of_++, items_first, of_listed, waits_of, items_attach}
use Rattle.runs.proofs.Words.{outcomes, word_of, words_attach, words_close}
use Rattle.runs.proofs.Onward.{everywhere, waiting, Stands, Onward, unmoved}

-- ---- attach

judged_stands : (n : ℕ) (r : Resumption) (e : Entry) (h : Held) → h.table ≡ [] → items_of n h.resume ≡ in_its_resume_list (judged r e) → of n h.resend ≡ [] → Stands n (judged r e) h
judged_stands n to.Resend e h t i s = record { table = ap (of n) t; resume = i; resend = s; waits = refl }
judged_stands n (to.Resume p) e h t i s = record { table = ap (of n) t; resume = i; resend = s; waits = refl }
judged_stands n to.Abort e h t i s = record { table = ap (of n) t; resume = i; resend = s; waits = refl }
judged_stands n to.RestateOutcome e h t i s = record { table = ap (of n) t; resume = i; resend = s; waits = refl }
judged_stands n (to.End o) e h t i s = record { table = ap (of n) t; resume = i; resend = s; waits = refl }
judged_stands n (to.Settle o) e h t i s = record { table = ap (of n) t; resume = i; resend = s; waits = refl }

judged_born : (r : Resumption) (e : Entry) → 1 ≡ born (judged r e)
judged_born to.Resend e = refl
judged_born (to.Resume p) e = refl
judged_born to.Abort e = refl
judged_born to.RestateOutcome e = refl
judged_born (to.End o) e = refl
judged_born (to.Settle o) e = refl

module _ (v : View) (n : ℕ) (a : RemoteAttach) where
  waits : (x : Life) → Stands n x v.held → items_of n (resumed v a).resume ≡ in_its_resume_list x ++ flat_map (waits_of a) (in_its_table x)
  waits x h =
      items_of_++ n v.held.resume (flat_map (item_of a) v.held.table)
      ∙ ap₂ (λ l m. l ++ m) h.resume (items_attach n a v.held.table ∙ ap (flat_map (waits_of a)) h.table)

  ends : (x : Life) → Stands n x v.held → outcomes n (flat_map (end_of a) v.held.table) ≡ flat_map (word_of a) (in_its_table x)
  ends x h = words_attach n a v.held.table ∙ ap (flat_map (word_of a)) h.table

  pub attach_onward : (pool : List ℕ) (s : LinkState) (output input : Option ℕ) (k : Settings) (x : Life) → Stands n x v.held
      → Onward n x (moved v s output input k (resumed v a) (flat_map (end_of a) v.held.table)) (next_life v (Attach a pool) n x)
  attach_onward pool s output input k x h = go x h
    where
      -- what is not in the table stays
      away : (x : Life) → in_its_table x ≡ [] → Stands n x v.held → Onward n x (moved v s output input k (resumed v a) (flat_map (end_of a) v.held.table)) x
      away x e h =
          unmoved n x v.held (moved v s output input k (resumed v a) (flat_map (end_of a) v.held.table)) x h refl (sym (h.table ∙ e))
          (waits x h ∙ ap (λ l. in_its_resume_list x ++ flat_map (waits_of a) l) e ∙ append-nil (in_its_resume_list x) ∙ sym h.resume)
          refl (ends x h ∙ ap (flat_map (word_of a)) e) refl

      go : (x : Life) → Stands n x v.held → Onward n x (moved v s output input k (resumed v a) (flat_map (end_of a) v.held.table)) (next_life v (Attach a pool) n x)
      go unborn h = away unborn refl h
      go (standing in_table e) h =
          record {
            stands = judged_stands n (judge a e) e (resumed v a) refl (waits (standing in_table e) h ∙ append-nil (waits_of a e)) h.resend;
            words = ends (standing in_table e) h ∙ append-nil (word_of a e);
            births = judged_born (judge a e) e;
          }
      go (standing (in_resume_list r) e) h = away (standing (in_resume_list r) e) refl h
      go (standing in_resend_list e) h = away (standing in_resend_list e) refl h
      go (over o) h = away (over o) refl h

-- ---- detach

-- the entry of a delivery that has not ended
abbrev pub alive : Life → List Entry
alive unborn = []
alive (standing w e) = e ∷ []
alive (over o) = []

all_alive : (x : Life) → in_its_table x ++ (waiting x ++ in_its_resend_list x) ≡ alive x
all_alive = everywhere (λ x. in_its_table x ++ (waiting x ++ in_its_resend_list x)) alive refl (λ _. refl) (λ _ _. refl) (λ _. refl) (λ _. refl)

gathered : (n : ℕ) (x : Life) (h : Held) → Stands n x h → of n (h.table ++ put_back h) ≡ alive x
gathered n x h k =
    of_++ n h.table (put_back h)
    ∙ ap₂ (λ l m. l ++ m) k.table
    (of_++ n (listed h.resume) h.resend ∙ ap₂ (λ l m. l ++ m) (of_listed n h.resume ∙ ap listed k.resume ∙ k.waits) k.resend)
    ∙ all_alive x

abbrev pub after_detach : (closed : Bool) → Option AmqpError → Life → Life
after_detach closed error unborn = unborn
after_detach closed error (standing w e) = detached_life closed error e
after_detach closed error (over o) = over o

pub detach_onward : (v : View) (n : ℕ) (closed : Bool) (error : Option AmqpError) (x : Life) → Stands n x v.held → Onward n x (detached v closed error) (after_detach closed error x)
detach_onward v n true error x h = go x (words_close n (closed_by error) (v.held.table ++ put_back v.held) ∙ ap (λ es. map (λ _. closed_by error) es) (gathered n x v.held h))
  where
    go : (x : Life) → outcomes n (detached v true error).ends ≡ map (λ _. closed_by error) (alive x) → Onward n x (detached v true error) (after_detach true error x)
    go unborn e = record { stands = record { table = refl; resume = refl; resend = refl; waits = refl }; words = e; births = refl }
    go (standing w x) e = record { stands = record { table = refl; resume = refl; resend = refl; waits = refl }; words = e; births = refl }
    go (over o) e = record { stands = record { table = refl; resume = refl; resend = refl; waits = refl }; words = ap (λ l. o ∷ l) e; births = refl }
detach_onward v n false error x h = go x (gathered n x v.held h)
  where
    go : (x : Life) → of n (v.held.table ++ put_back v.held) ≡ alive x → Onward n x (detached v false error) (after_detach false error x)
    go unborn e = record { stands = record { table = e; resume = refl; resend = refl; waits = refl }; words = refl; births = refl }
    go (standing w x) e = record { stands = record { table = e; resume = refl; resend = refl; waits = refl }; words = refl; births = refl }
    go (over o) e = record { stands = record { table = e; resume = refl; resend = refl; waits = refl }; words = refl; births = refl }

-- ---- an entry that joins the end of a list

joined_own : (n : ℕ) (xs : List Entry) (e : Entry) → eqb n e.entry.ticket ≡ true → of n xs ≡ [] → of n (xs ++ e ∷ []) ≡ e ∷ []
joined_own n xs e k h = of_++ n xs (e ∷ []) ∙ ap₂ (λ l b. l ++ cond b (e ∷ []) []) h k

joined_other : (n : ℕ) (xs : List Entry) (e : Entry) → eqb n e.entry.ticket ≡ false → of n (xs ++ e ∷ []) ≡ of n xs
joined_other n xs e k = of_++ n xs (e ∷ []) ∙ ap (λ b. of n xs ++ cond b (e ∷ []) []) k ∙ append-nil (of n xs)

-- ---- work

abbrev pub after_work : List ℕ → (its_turn : Bool) → Life → Life
after_work pool b unborn = unborn
after_work pool b (standing in_table e) = standing in_table e
after_work pool b (standing (in_resume_list r) e) = cond b (worked_life pool r e) (standing (in_resume_list r) e)
after_work pool b (standing in_resend_list e) = standing in_resend_list e
after_work pool b (over o) = over o

not_its_turn : (pool : List ℕ) (x : Life) → after_work pool false x ≡ x
not_its_turn pool = everywhere (after_work pool false) (λ x. x) refl (λ _. refl) (λ _ _. refl) (λ _. refl) (λ _. refl)

-- a life that waits in the resume list, by its item
record Waiting (x : Life) (is : List ResumingDelivery) : Type 0 where
  todo : Resumption
  entry : Entry
  is_so : x ≡ standing (in_resume_list todo) entry
  item : is ≡ item_for todo entry

the_waiting : (x : Life) (i : ResumingDelivery) (is : List ResumingDelivery) → i ∷ is ≡ in_its_resume_list x → Waiting x (i ∷ is)
the_waiting unborn i is h = absurd (cc)
the_waiting (standing in_table e) i is h = absurd (cc)
the_waiting (standing (in_resume_list r) e) i is h = record { todo = r; entry = e; is_so = refl; item = h }
the_waiting (standing in_resend_list e) i is h = absurd (cc)
the_waiting (over o) i is h = absurd (cc)

module _ (v : View) (n : ℕ) (pool : List ℕ) where
  -- the first item, and that no other is the number's
  alone : (i j : ResumingDelivery) (is : List ResumingDelivery) (x y : Life) → i ∷ items_of n is ≡ j ∷ [] → works_on n (i ∷ is) ≡ true
      → (works_on n (j ∷ is) ≡ true → items_of n is ≡ [] → Onward n x (item_turn v pool (j ∷ is)) y) → Onward n x (item_turn v pool (i ∷ is)) y
  alone i j is x y q k f =
      let z : j ≡ i = cc in
      let none : items_of n is ≡ [] = cc in
      subst (λ (l : ResumingDelivery). Onward n x (item_turn v pool (l ∷ is)) y) z (f (ap (λ l. works_on n (l ∷ is)) z ∙ k) none)

  -- it is the number's
  work_own : (r : Resumption) (e : Entry) (i : ResumingDelivery) (is : List ResumingDelivery) → i ∷ items_of n is ≡ item_for r e → works_on n (i ∷ is) ≡ true
      → Stands n (standing (in_resume_list r) e) v.held → Onward n (standing (in_resume_list r) e) (item_turn v pool (i ∷ is)) (worked_life pool r e)
  work_own to.Resend e i is q k h =
      alone i (item.Resend e) is (standing (in_resume_list to.Resend) e) (standing in_resend_list e) q k
      (λ own none. record {
        stands = record { table = h.table; resume = none; resend = joined_own n v.held.resend e own h.resend; waits = refl };
        words = refl;
        births = refl;
      })
  work_own (to.Resume p) e i is q k h =
      let x = cut_to (start_in pool e.entry.place p) e in
      alone i (item.Resume e p) is (standing (in_resume_list (to.Resume p)) e) (standing in_table x) q k
      (λ own none. record {
        stands = record { table = joined_own n v.held.table (cut_to (start_in pool e.entry.place p) e) own h.table; resume = none; resend = h.resend; waits = refl };
        words = refl;
        births = refl;
      })
  work_own to.Abort e i is q k h =
      alone i (item.Abort e) is (standing (in_resume_list to.Abort) e) (over NoState) q k
      (λ own none. record { stands = record { table = h.table; resume = none; resend = h.resend; waits = refl }; words = rw own; births = refl })
  work_own to.RestateOutcome e i is q k h =
      alone i (item.RestateOutcome e) is (standing (in_resume_list to.RestateOutcome) e) (standing in_table e) q k
      (λ own none. record {
        stands = record { table = joined_own n v.held.table e own h.table; resume = none; resend = h.resend; waits = refl };
        words = refl;
        births = refl;
      })
  work_own (to.End s) e i is q k h = absurd (cc)
  work_own (to.Settle s) e i is q k h = let w = h.waits in absurd (cc)

  -- it is another's, or a settling
  work_other : (i : ResumingDelivery) (is : List ResumingDelivery) (x y : Life) → v.held.resume ≡ i ∷ is → works_on n (i ∷ is) ≡ false → y ≡ x → Stands n x v.held
      → Onward n x (item_turn v pool (i ∷ is)) y
  work_other i is x y q k e h = go i k (sym (ap (items_of n) q ∙ items_first n i is ∙ ap (λ b. cond b (i ∷ items_of n is) (items_of n is)) k))
    where
      go : (i : ResumingDelivery) → works_on n (i ∷ is) ≡ false → items_of n is ≡ items_of n v.held.resume → Onward n x (item_turn v pool (i ∷ is)) y
      go (item.Resend d) k r = unmoved n x v.held (item_turn v pool (item.Resend d ∷ is)) y h e refl r (joined_other n v.held.resend d k) refl refl
      go (item.Resume d p) k r =
          unmoved n x v.held (item_turn v pool (item.Resume d p ∷ is)) y h e (joined_other n v.held.table (cut_to (start_in pool d.entry.place p) d) k) r refl refl refl
      go (item.Abort d) k r = unmoved n x v.held (item_turn v pool (item.Abort d ∷ is)) y h e refl r refl (rw k) refl
      go (item.RestateOutcome d) k r = unmoved n x v.held (item_turn v pool (item.RestateOutcome d ∷ is)) y h e (joined_other n v.held.table d k) r refl refl refl
      go (item.Settling t f o) k r = unmoved n x v.held (item_turn v pool (item.Settling t f o ∷ is)) y h e refl r refl refl refl

  pub work_onward : (x : Life) → Stands n x v.held → Onward n x (item_turn v pool v.held.resume) (after_work pool (works_on n v.held.resume) x)
  work_onward x h = go v.held.resume refl
    where
      go : (is : List ResumingDelivery) → v.held.resume ≡ is → Onward n x (item_turn v pool is) (after_work pool (works_on n is) x)
      go [] q = unmoved n x v.held (stay v) (after_work pool false x) h (not_its_turn pool x) refl refl refl refl refl
      go (i ∷ is) q = at (works_on n (i ∷ is)) refl
        where
          at : (b : Bool) → works_on n (i ∷ is) ≡ b → Onward n x (item_turn v pool (i ∷ is)) (after_work pool b x)
          at false k = work_other i is x (after_work pool false x) q k (not_its_turn pool x) h
          at true k =
              let first : i ∷ items_of n is ≡ in_its_resume_list x =
              sym (ap (items_of n) q ∙ items_first n i is ∙ ap (λ b. cond b (i ∷ items_of n is) (items_of n is)) k) ∙ h.resume in
              let w = the_waiting x i (items_of n is) first in
              subst (λ (l : Life). Onward n l (item_turn v pool (i ∷ is)) (after_work pool true l)) (sym w.is_so)
              (work_own w.todo w.entry i is w.item k (subst (λ (l : Life). Stands n l v.held) w.is_so h))

-- ---- resend

abbrev pub after_resend : View → (its_turn : Bool) → Life → Life
after_resend v b unborn = unborn
after_resend v b (standing in_table e) = standing in_table e
after_resend v b (standing (in_resume_list r) e) = standing (in_resume_list r) e
after_resend v b (standing in_resend_list e) = cond b (resent_life (goes_settled v (again e)) v e) (standing in_resend_list e)
after_resend v b (over o) = over o

not_its_resend : (v : View) (x : Life) → after_resend v false x ≡ x
not_its_resend v = everywhere (after_resend v false) (λ x. x) refl (λ _. refl) (λ _ _. refl) (λ _. refl) (λ _. refl)

the_resent : (x : Life) (e : Entry) (es : List Entry) → e ∷ es ≡ in_its_resend_list x → (x ≡ standing in_resend_list e) × (es ≡ [])
the_resent unborn e es h = absurd (cc)
the_resent (standing in_table d) e es h = absurd (cc)
the_resent (standing (in_resume_list r) d) e es h = absurd (cc)
the_resent (standing in_resend_list d) e es h = (cc, cc)
the_resent (over o) e es h = absurd (cc)

module _ (v : View) (n : ℕ) where
  resend_own : (settled : Bool) (e : Entry) (es : List Entry) → eqb n e.entry.ticket ≡ true → of n es ≡ [] → Stands n (standing in_resend_list e) v.held
      → Onward n (standing in_resend_list e) (again_as settled v e es) (resent_life settled v e)
  resend_own true e es k r h =
      record { stands = record { table = h.table; resume = h.resume; resend = r; waits = refl }; words = rw k; births = refl }
  resend_own false e es k r h =
      record {
        stands = record { table = joined_own n v.held.table (sent_again v e) k h.table; resume = h.resume; resend = r; waits = refl };
        words = refl;
        births = refl;
      }

  resend_other : (settled : Bool) (e : Entry) (es : List Entry) (x y : Life) → eqb n e.entry.ticket ≡ false → of n es ≡ of n v.held.resend → y ≡ x → Stands n x v.held
      → Onward n x (again_as settled v e es) y
  resend_other true e es x y k r q h = unmoved n x v.held (again_as true v e es) y h q refl refl r (rw k) refl
  resend_other false e es x y k r q h = unmoved n x v.held (again_as false v e es) y h q (joined_other n v.held.table (sent_again v e) k) refl r refl refl

  pub resend_onward : (x : Life) → Stands n x v.held → Onward n x (again_turn v v.held.resend) (after_resend v (resends n v.held.resend) x)
  resend_onward x h = go v.held.resend refl
    where
      go : (es : List Entry) → v.held.resend ≡ es → Onward n x (again_turn v es) (after_resend v (resends n es) x)
      go [] q = unmoved n x v.held (stay v) (after_resend v false x) h (not_its_resend v x) refl refl refl refl refl
      go (e ∷ es) q = at (eqb n e.entry.ticket) refl
        where
          at : (b : Bool) → eqb n e.entry.ticket ≡ b → Onward n x (again_turn v (e ∷ es)) (after_resend v b x)
          at false k =
              resend_other (goes_settled v (again e)) e es x (after_resend v false x) k
              (sym (ap (of n) q ∙ ap (λ b. cond b (e ∷ of n es) (of n es)) k)) (not_its_resend v x) h
          at true k =
              let w = the_resent x e (of n es) (sym (ap (of n) q ∙ ap (λ b. cond b (e ∷ of n es) (of n es)) k) ∙ h.resend) in
              subst (λ (l : Life). Onward n l (again_turn v (e ∷ es)) (after_resend v true l)) (sym w.0)
              (resend_own (goes_settled v (again e)) e es k w.1 (subst (λ (l : Life). Stands n l v.held) w.0 h))

-- What stands under a number after a send or a disposition is what the call makes of its life.
use Rattle.std.proofs.Common.{◌≡◌, ℕ, ◌+◌, ◌≤◌, Bool, true, false, cond, eqb, List, [], ◌∷◌, ◌++◌, length, Some, None, Option, sym, refl, ap, ◌∙◌, subst, arith}
use Rattle.std.proofs.lemmas.List.{append-nil}
use Rattle.std.proofs.lemmas.Bool.{eqb-true}
use Rattle.amqp.specs.declared.state.DeliveryState.{DeliveryState}
use Rattle.amqp.specs.declared.tag.DeliveryTag.{DeliveryTag}
use Rattle.unsettled.specs.declared.message.UnsettledMessage.{UnsettledMessage}
use Rattle.unsettled.specs.Tables.{same_tag, look, entry_of, put_in, swap_removed}
use Rattle.unsettled.proofs.Same.{same_tag_decides}
use Rattle.link.specs.declared.delivery.Outcome.{Outcome}
use Rattle.link.specs.declared.delivery.Sendable.{Sendable}
use Rattle.link.specs.declared.resumption.Resumption.{Resumption}
use Rattle.link.specs.Disposing.{recording}
use Rattle.link.specs.Resuming.{listed}
use Rattle.link.specs.Sending.{first_sent, next_number, sent_as, with_table}
use Rattle.link.specs.Turns.{Turn, stay, holding}
use Rattle.link.specs.Views.{View, Held, Entry}
use Rattle.runs.specs.Lives.{in_table, in_resume_list, in_resend_list, Life, unborn, standing, over, sent_life, told, of, items_of, in_its_table, in_its_resume_list, in_its_resend_list, born}
use Rattle.runs.specs.Runs.{one}
use Rattle.runs.proofs.Tables.{found, put_found, swap_found}
use Rattle.runs.proofs.Entries.{tally, of_++, found_tag, found_none, exchange_other, without_other, found_has, found_one, exchange_it, without_it, found_other}
use Rattle.runs.proofs.Words.{last_word, among, outcomes}

-- what two functions make of a life is the same where it is the same wherever the life stands
pub everywhere : {X : Type 0} (f g : Life → X) → f unborn ≡ g unborn → ((e : Entry) → f (standing in_table e) ≡ g (standing in_table e))
    → ((r : Resumption) (e : Entry) → f (standing (in_resume_list r) e) ≡ g (standing (in_resume_list r) e)) → ((e : Entry) → f (standing in_resend_list e) ≡ g (standing in_resend_list e))
    → ((o : Outcome) → f (over o) ≡ g (over o)) → (x : Life) → f x ≡ g x
everywhere f g b t i s o unborn = b
everywhere f g b t i s o (standing in_table e) = t e
everywhere f g b t i s o (standing (in_resume_list r) e) = i r e
everywhere f g b t i s o (standing in_resend_list e) = s e
everywhere f g b t i s o (over w) = o w

-- what waits of it in the resume list
abbrev pub waiting : Life → List Entry
waiting unborn = []
waiting (standing in_table e) = []
waiting (standing (in_resume_list r) e) = e ∷ []
waiting (standing in_resend_list e) = []
waiting (over o) = []

-- all that stands under the number is what its life says, and its item in the resume list is a delivery's
pub record Stands (n : ℕ) (x : Life) (h : Held) : Type 0 where
  pub table : of n h.table ≡ in_its_table x
  pub resume : items_of n h.resume ≡ in_its_resume_list x
  pub resend : of n h.resend ≡ in_its_resend_list x
  pub waits : listed (in_its_resume_list x) ≡ waiting x

-- a turn makes the life y of the life x
pub record Onward (n : ℕ) (x : Life) (u : Turn) (y : Life) : Type 0 where
  pub stands : Stands n y u.held
  pub words : last_word x ++ outcomes n u.ends ≡ last_word y
  pub births : born x + among n u.begun ≡ born y

-- nothing of the number changes
pub unmoved : (n : ℕ) (x : Life) (h : Held) (u : Turn) (y : Life) → Stands n x h → y ≡ x → of n u.held.table ≡ of n h.table
    → items_of n u.held.resume ≡ items_of n h.resume → of n u.held.resend ≡ of n h.resend → outcomes n u.ends ≡ [] → among n u.begun ≡ 0 → Onward n x u y
unmoved n x h u y k e t r s w b =
    record {
      stands = record {
        table = t ∙ k.table ∙ ap in_its_table (sym e);
        resume = r ∙ k.resume ∙ ap in_its_resume_list (sym e);
        resend = s ∙ k.resend ∙ ap in_its_resend_list (sym e);
        waits = subst (λ (z : Life). listed (in_its_resume_list z) ≡ waiting z) (sym e) k.waits;
      };
      words = ap (λ l. last_word x ++ l) w ∙ append-nil (last_word x) ∙ ap last_word (sym e);
      births = omega (arith, ap born e);
    }

-- ---- send

-- a life that a send may begin
abbrev pub after_send : View → Sendable → ℕ → (settled : Bool) → Life → Life
after_send v m n b unborn = sent_life v m n b
after_send v m n b (standing w e) = standing w e
after_send v m n b (over o) = over o

not_begun : (v : View) (m : Sendable) (n : ℕ) → eqb n (next_number v) ≡ false → (x : Life) → after_send v m n false x ≡ x
not_begun v m n q unborn = ap (λ b. cond b (standing in_table (first_sent v m)) unborn) q
not_begun v m n q (standing w e) = refl
not_begun v m n q (over o) = refl

settled_none : (v : View) (m : Sendable) (n : ℕ) (x : Life) → after_send v m n true x ≡ x
settled_none v m n unborn = refl
settled_none v m n (standing w e) = refl
settled_none v m n (over o) = refl

-- the entry that a send adds has the next number
of_sent : (v : View) (m : Sendable) (n : ℕ) (b : Bool) → eqb n (next_number v) ≡ b → of n (first_sent v m ∷ []) ≡ cond b (first_sent v m ∷ []) []
of_sent v m n b q = ap (λ c. cond c (first_sent v m ∷ []) []) q

begins : (v : View) (m : Sendable) (n : ℕ) → Stands n unborn v.held → eqb n (next_number v) ≡ true → Onward n unborn (sent_as false v m) (sent_life v m n false)
begins v m n h q =
    let y : sent_life v m n false ≡ standing in_table (first_sent v m) = ap (λ b. cond b (standing in_table (first_sent v m)) unborn) q in
    subst (Onward n unborn (sent_as false v m)) (sym y)
    (record {
      stands = record {
        table = of_++ n v.held.table (first_sent v m ∷ []) ∙ ap (λ l. l ++ of n (first_sent v m ∷ [])) h.table ∙ of_sent v m n true q;
        resume = h.resume;
        resend = h.resend;
        waits = refl;
      };
      words = refl;
      births = ap (λ b. 0 + (one b + 0)) q;
    })

pub send_onward : (v : View) (m : Sendable) (n : ℕ) (x : Life) (b : Bool) → Stands n x v.held → (next_number v ≤ n → x ≡ unborn) → Onward n x (sent_as b v m) (after_send v m n b x)
send_onward v m n x true h f = unmoved n x v.held (sent_as true v m) (after_send v m n true x) h (settled_none v m n x) refl refl refl refl refl
send_onward v m n x false h f = go (eqb n (next_number v)) refl
  where
    go : (b : Bool) → eqb n (next_number v) ≡ b → Onward n x (sent_as false v m) (after_send v m n false x)
    go true q =
        let e = f (omega (arith, eqb-true n (next_number v) q)) in
        let k = subst (λ (z : Life). Stands n z v.held) e h in
        subst (λ (z : Life). Onward n z (sent_as false v m) (after_send v m n false z)) (sym e) (begins v m n k q)
    go false q =
        unmoved n x v.held (sent_as false v m) (after_send v m n false x) h (not_begun v m n q x)
        (of_++ n v.held.table (first_sent v m ∷ []) ∙ ap (λ l. of n v.held.table ++ l) (of_sent v m n false q) ∙ append-nil (of n v.held.table))
        refl refl refl (ap (λ b. one b + 0) q)

-- ---- dispositions, the peer's and our own: they end the delivery of a tag, with an outcome that its entry knows, or record a state

abbrev pub disposal_turn : View → DeliveryTag → Option DeliveryState → (UnsettledMessage → Outcome) → (ends : Bool) → UnsettledMessage → Turn
disposal_turn v t s w true m = holding v (with_table (swap_removed t v.held.table) v.held) (record { number = m.ticket; outcome = w m } ∷ [])
disposal_turn v t s w false m = holding v (with_table (put_in t (recording s m) v.held.table) v.held) []

abbrev pub disposal_at : View → DeliveryTag → Option DeliveryState → (UnsettledMessage → Outcome) → (ends : Bool) → Option UnsettledMessage → Turn
disposal_at v t s w b None = stay v
disposal_at v t s w b (Some m) = disposal_turn v t s w b m

abbrev pub disposal_life : Option DeliveryState → (UnsettledMessage → Outcome) → (ends : Bool) → Entry → Life
disposal_life s w true e = over (w e.entry)
disposal_life s w false e = standing in_table (told s e)

abbrev pub after_disposal : DeliveryTag → Option DeliveryState → (UnsettledMessage → Outcome) → (ends : Bool) → Life → Life
after_disposal t s w b unborn = unborn
after_disposal t s w b (standing in_table e) = cond (same_tag e.tag t) (disposal_life s w b e) (standing in_table e)
after_disposal t s w b (standing (in_resume_list r) e) = standing (in_resume_list r) e
after_disposal t s w b (standing in_resend_list e) = standing in_resend_list e
after_disposal t s w b (over o) = over o

-- the life of a number that the table has
the_one : (x : Life) (es : List Entry) → es ≡ in_its_table x → 1 ≤ length es → (e : Entry) × (x ≡ standing in_table e)
the_one unborn es h k = absurd (omega (arith, ap length h))
the_one (standing in_table e) es h k = (e, refl)
the_one (standing (in_resume_list r) e) es h k = absurd (omega (arith, ap length h))
the_one (standing in_resend_list e) es h k = absurd (omega (arith, ap length h))
the_one (over o) es h k = absurd (omega (arith, ap length h))

at_most_one : (x : Life) → length (in_its_table x) ≤ 1
at_most_one unborn = omega arith
at_most_one (standing in_table e) = omega arith
at_most_one (standing (in_resume_list r) e) = omega arith
at_most_one (standing in_resend_list e) = omega arith
at_most_one (over o) = omega arith

module _ (v : View) (n : ℕ) (t : DeliveryTag) (s : Option DeliveryState) (w : UnsettledMessage → Outcome) where
  other_tag : (b : Bool) (x : Life) → ((e : Entry) → x ≡ standing in_table e → same_tag e.tag t ≡ false) → after_disposal t s w b x ≡ x
  other_tag b unborn h = refl
  other_tag b (standing in_table e) h = ap (λ c. cond c (disposal_life s w b e) (standing in_table e)) (h e refl)
  other_tag b (standing (in_resume_list r) e) h = refl
  other_tag b (standing in_resend_list e) h = refl
  other_tag b (over o) h = refl

  -- the found entry is the number's own
  disposed_it : (b : Bool) (x : Entry) → found t v.held.table ≡ Some x → eqb n x.entry.ticket ≡ true → Stands n (standing in_table x) v.held
      → Onward n (standing in_table x) (disposal_turn v t s w b x.entry) (disposal_life s w b x)
  disposed_it true x f k h =
      record {
        stands = record {
          table = ap (of n) (swap_found t v.held.table x f) ∙ without_it t n x v.held.table f k h.table;
          resume = h.resume;
          resend = h.resend;
          waits = refl;
        };
        words = ap (λ b. cond b (w x.entry ∷ []) []) k;
        births = refl;
      }
  disposed_it false x f k h =
      let e : x.tag ≡ t = (same_tag_decides x.tag t).0 (found_tag t x v.held.table f) in
      record {
        stands = record {
          table = ap (of n) (put_found t (recording s x.entry) v.held.table x f) ∙ exchange_it t (recording s x.entry) n x v.held.table f refl k h.table
              ∙ ap (λ (u : DeliveryTag). record { tag = u; entry = recording s x.entry } ∷ []) (sym e);
          resume = h.resume;
          resend = h.resend;
          waits = refl;
        };
        words = refl;
        births = refl;
      }

  disposed_other : (b : Bool) (x : Entry) (y : Life) → found t v.held.table ≡ Some x → eqb n x.entry.ticket ≡ false → Stands n y v.held
      → after_disposal t s w b y ≡ y → Onward n y (disposal_turn v t s w b x.entry) (after_disposal t s w b y)
  disposed_other true x y f k h e =
      unmoved n y v.held (disposal_turn v t s w true x.entry) (after_disposal t s w true y) h e
      (ap (of n) (swap_found t v.held.table x f) ∙ without_other t n x v.held.table f k (omega (arith, ap length h.table, at_most_one y)))
      refl refl (ap (λ b. cond b (w x.entry ∷ []) []) k) refl
  disposed_other false x y f k h e =
      unmoved n y v.held (disposal_turn v t s w false x.entry) (after_disposal t s w false y) h e
      (ap (of n) (put_found t (recording s x.entry) v.held.table x f) ∙ exchange_other t (recording s x.entry) n x v.held.table f refl k)
      refl refl refl refl

  found_onward : (b : Bool) (y : Life) (x : Entry) → found t v.held.table ≡ Some x → tally t v.held.table ≤ 1 → Stands n y v.held
      → Onward n y (disposal_turn v t s w b x.entry) (after_disposal t s w b y)
  found_onward b y x f u h = go (eqb n x.entry.ticket) refl
    where
      there : (e : Entry) → y ≡ standing in_table e → eqb n x.entry.ticket ≡ true → Onward n y (disposal_turn v t s w b x.entry) (after_disposal t s w b y)
      there e q k =
          let z : x ≡ e = found_one t n x e v.held.table f k (h.table ∙ ap in_its_table q) in
          let q' : y ≡ standing in_table x = q ∙ ap (standing in_table) (sym z) in
          let hx : Stands n (standing in_table x) v.held = subst (λ (l : Life). Stands n l v.held) q' h in
          let d : after_disposal t s w b (standing in_table x) ≡ disposal_life s w b x =
          ap (λ c. cond c (disposal_life s w b x) (standing in_table x)) (found_tag t x v.held.table f) in
          subst (λ (l : Life). Onward n l (disposal_turn v t s w b x.entry) (after_disposal t s w b l)) (sym q')
          (subst (Onward n (standing in_table x) (disposal_turn v t s w b x.entry)) (sym d) (disposed_it b x f k hx))

      go : (c : Bool) → eqb n x.entry.ticket ≡ c → Onward n y (disposal_turn v t s w b x.entry) (after_disposal t s w b y)
      go true k =
          let o = the_one y (of n v.held.table) h.table (found_has t n x v.held.table f k) in
          there o.0 o.1 k
      go false k =
          disposed_other b x y f k h (other_tag b y (λ e q. found_other t n x e v.held.table f k (h.table ∙ ap in_its_table q) u))

  pub disposal_onward : (b : Bool) (y : Life) → tally t v.held.table ≤ 1 → Stands n y v.held → Onward n y (disposal_at v t s w b (look t v.held.table)) (after_disposal t s w b y)
  disposal_onward b y u h = go (found t v.held.table) refl
    where
      go : (o : Option Entry) → found t v.held.table ≡ o → Onward n y (disposal_at v t s w b (look t v.held.table)) (after_disposal t s w b y)
      go None f =
          let e : look t v.held.table ≡ None = ap entry_of f in
          subst (λ (o : Option UnsettledMessage). Onward n y (disposal_at v t s w b o) (after_disposal t s w b y)) (sym e)
          (unmoved n y v.held (stay v) (after_disposal t s w b y) h
          (other_tag b y (λ x q. found_none t n x v.held.table [] f (h.table ∙ ap in_its_table q)))
          refl refl refl refl refl)
      go (Some x) f =
          let e : look t v.held.table ≡ Some x.entry = ap entry_of f in
          subst (λ (o : Option UnsettledMessage). Onward n y (disposal_at v t s w b o) (after_disposal t s w b y)) (sym e)
          (found_onward b y x f u h)

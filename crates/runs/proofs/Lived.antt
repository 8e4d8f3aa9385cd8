-- Every delivery stands as its life says, after every run.
use Rattle.std.proofs.Common.{◌≡◌, ℕ, ◌≤◌, Bool, true, false, cond, List, [], ◌∷◌, is_some, Some, None, Option, refl, ap, ◌∙◌, arith}
use Rattle.std.proofs.lemmas.Bool.{ne_eqb}
use Rattle.amqp.specs.declared.error.SendError.{SendError}
use Rattle.link.specs.declared.delivery.Outcome.{Outcome}
use Rattle.link.specs.declared.delivery.Sendable.{Sendable}
use Rattle.link.specs.Calls.{Call, Open, Attach, Flow, Send, Disposition, Dispose, Work, Resend, Detach, Look, Collect, refused, turn}
use Rattle.link.specs.Rows.{unless}
use Rattle.link.specs.Sending.{Carrier, goes_settled, next_number, send_refusal, sent, sent_as, first_sent}
use Rattle.link.specs.Turns.{stay}
use Rattle.link.specs.Views.{View}
use Rattle.link.proofs.Sending.{Clear, clear, own_clear}
use Rattle.runs.specs.Lives.{in_table, unborn, standing, over, from_unborn, next_life, life, sent_life, born, AsLived}
use Rattle.runs.specs.Runs.{Run, made, ◌▹◌, ◌then◌, after, given}
use Rattle.runs.proofs.Calls.{both, onward}
use Rattle.runs.proofs.Onward.{Stands, Onward}
use Rattle.runs.proofs.Sound.{Sound, steady, sound}
use Rattle.runs.proofs.Tickets.{fair}

-- ---- a number from the count on is not begun

not_yet : (v : View) (c : Carrier) (m : Sendable) (n : ℕ) → Sound v → (o : Option SendError) → send_refusal v c m ≡ o
    → (unless o (stay v) (sent v m)).flow.delivery_count ≤ n → cond (is_some o) unborn (sent_life v m n (goes_settled v m)) ≡ unborn
not_yet v c m n s (Some e) q h = refl
not_yet v c m n s None q h = go (goes_settled v m) h
  where
    k : Clear v c m
    k = clear v c m (own_clear v c m q)

    go : (b : Bool) → (sent_as b v m).flow.delivery_count ≤ n → sent_life v m n b ≡ unborn
    go true g = refl
    go false g =
        ap (λ b. cond b (standing in_table (first_sent v m)) unborn) (ne_eqb n (next_number v) (λ e. omega (arith, s.span, k.credit)))

to_come_still : (v : View) (c : Call) (n : ℕ) → Sound v → (turn v c).flow.delivery_count ≤ n → cond (refused v c) unborn (from_unborn v c n) ≡ unborn
to_come_still v (Open handle incomplete) n s h = both (refused v (Open handle incomplete)) unborn unborn refl
to_come_still v (Attach a pool) n s h = both (refused v (Attach a pool)) unborn unborn refl
to_come_still v (Flow i) n s h = refl
to_come_still v (Send c m) n s h = not_yet v c m n s (send_refusal v c m) refl h
to_come_still v (Disposition t b d) n s h = refl
to_come_still v (Dispose sink d) n s h = both (refused v (Dispose sink d)) unborn unborn refl
to_come_still v (Work c) n s h = both (refused v (Work c)) unborn unborn refl
to_come_still v (Resend c) n s h = both (refused v (Resend c)) unborn unborn refl
to_come_still v (Detach closed error) n s h = both (refused v (Detach closed error)) unborn unborn refl
to_come_still v (Look k) n s h = both (refused v (Look k)) unborn unborn refl
to_come_still v (Collect k) n s h = both (refused v (Collect k)) unborn unborn refl

-- ---- lives of a run

pub record Lived (n : ℕ) (r : Run) : Type 0 where
  pub stands : Stands n (life r n) (after r).held
  pub births : given n r ≡ born (life r n)
  -- numbers from the count on are still to come
  pub to_come : next_number (after r) ≤ n → life r n ≡ unborn

pub going_on : (n : ℕ) (r : Run) (c : Call) → Lived n r → Onward n (life r n) (turn (after r) c) (life (r ▹ c) n)
going_on n r c h = onward (after r) c n (life r n) (sound r) h.stands h.to_come

pub lived : (n : ℕ) (r : Run) → Lived n r
lived n (made m) = record { stands = record { table = refl; resume = refl; resend = refl; waits = refl }; births = refl; to_come = λ _. refl }
lived n (r ▹ c) =
    let h = lived n r in
    let o = going_on n r c h in
    let k = steady (after r) c (sound r) in
    record {
      stands = o.stands;
      births = omega (arith, o.births, h.births, (fair n (after r) c).begins);
      to_come = λ le. ap (λ x. cond (refused (after r) c) x (next_life (after r) c n x)) (h.to_come (omega (arith, k.rises))) ∙ to_come_still (after r) c n (sound r) le;
    }

pub as_lived : (n : ℕ) (r : Run) → AsLived n (life r n) (after r).held
as_lived n r = let s = (lived n r).stands in record { table = s.table; resume = s.resume; resend = s.resend }

-- what has ended stays so
pub for_good : (n : ℕ) (r : Run) (o : Outcome) → life r n ≡ over o → (cs : List Call) → life (r then cs) n ≡ over o
for_good n r o e [] = e
for_good n r o e (c ∷ cs) =
    for_good n (r ▹ c) o (ap (λ x. cond (refused (after r) c) x (next_life (after r) c n x)) e ∙ both (refused (after r) c) (over o) (over o) refl) cs

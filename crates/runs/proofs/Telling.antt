-- What the seats tell is what the lives say.
use Rattle.std.proofs.Common.{◌≡◌, ℕ, zero, suc, ◌+◌, ◌≤◌, Bool, true, false, eqb, List, [], ◌∷◌, ◌++◌, length, replicate, Some, None, Ok, Option, sym, refl, ap, ◌∙◌, arith}
use Rattle.std.proofs.lemmas.Bool.{not-false, eqb-true}
use Rattle.std.specs.List.{list_any}
use Rattle.std.specs.Option.{ok_or}
use Rattle.amqp.specs.declared.error.SendError.{SendError}
use Rattle.amqp.specs.declared.error.TicketError.TheVariants.{NoSeat}
use Rattle.link.specs.declared.delivery.Outcome.{Outcome}
use Rattle.link.specs.declared.delivery.Sendable.{Sendable}
use Rattle.link.specs.declared.seat.Seat.TheVariants.{Free}
use Rattle.link.specs.Calls.{Call, Open, Attach, Flow, Send, Disposition, Dispose, Work, Resend, Detach, Look, Collect, turn}
use Rattle.link.specs.Disposing.{looked}
use Rattle.link.specs.Rows.{unless}
use Rattle.link.specs.Seats.{seat_of, is_free}
use Rattle.link.specs.Sending.{Carrier, goes_settled, next_number, send_refusal, sent, sent_as}
use Rattle.link.specs.Turns.{stay, sit_all, tell_all}
use Rattle.link.specs.Views.{View}
use Rattle.link.proofs.Sending.{clear, own_clear}
use Rattle.runs.specs.Lives.{Life, unborn, standing, over, life, born, progress}
use Rattle.runs.specs.Runs.{Run, made, ◌▹◌, after, one, gives, given, collected}
use Rattle.runs.proofs.Lived.{lived, going_on}
use Rattle.runs.proofs.Seats.{telling_all, seat_tell_all, seat_sit, seat_sit_others, seat_vacate_all, seat_none_left, telling_none, progress_of, telling_progress}
use Rattle.runs.proofs.Tickets.{fair}
use Rattle.runs.proofs.Words.{last_word, among, outcomes}

-- ---- what sits down in a turn

-- a delivery that begins finds a seat
sits : (v : View) (c : Carrier) (m : Sendable) (n : ℕ) (o : Option SendError) → send_refusal v c m ≡ o → seat_of n v.seats ≡ None
    → among n (unless o (stay v) (sent v m)).begun ≡ 1 → seat_of n (sit_all (unless o (stay v) (sent v m)).begun v.seats) ≡ Some None
sits v c m n (Some e) q h a = absurd (omega arith)
sits v c m n None q h a = go (goes_settled v m) refl a
  where
    go : (b : Bool) → goes_settled v m ≡ b → among n (sent_as b v m).begun ≡ 1 → seat_of n (sit_all (sent_as b v m).begun v.seats) ≡ Some None
    go true e w = absurd (omega arith)
    go false e w = at (eqb n (next_number v)) refl w
      where
        at : (b : Bool) → eqb n (next_number v) ≡ b → one b + 0 ≡ 1 → seat_of n (sit_all (next_number v ∷ []) v.seats) ≡ Some None
        at true k z =
            let f = not-false (list_any is_free v.seats) ((clear v c m (own_clear v c m q)).seat e) in
            ap (λ j. seat_of n (sit_all (j ∷ []) v.seats)) (sym (eqb-true n (next_number v) k)) ∙ seat_sit n v.seats h f
        at false k z = absurd (omega arith)

-- whatever call: one that begins the number's delivery
sits_down : (v : View) (c : Call) (n : ℕ) → seat_of n v.seats ≡ None → among n (turn v c).begun ≡ 1 → seat_of n (sit_all (turn v c).begun v.seats) ≡ Some None
sits_down v (Open handle incomplete) n h a = absurd (omega (arith, (fair n v (Open handle incomplete)).begins))
sits_down v (Attach r pool) n h a = absurd (omega (arith, (fair n v (Attach r pool)).begins))
sits_down v (Flow i) n h a = absurd (omega arith)
sits_down v (Send c m) n h a = sits v c m n (send_refusal v c m) refl h a
sits_down v (Disposition t b s) n h a = absurd (omega (arith, (fair n v (Disposition t b s)).begins))
sits_down v (Dispose sink d) n h a = absurd (omega (arith, (fair n v (Dispose sink d)).begins))
sits_down v (Work c) n h a = absurd (omega (arith, (fair n v (Work c)).begins))
sits_down v (Resend c) n h a = absurd (omega (arith, (fair n v (Resend c)).begins))
sits_down v (Detach closed error) n h a = absurd (omega (arith, (fair n v (Detach closed error)).begins))
sits_down v (Look k) n h a = absurd (omega arith)
sits_down v (Collect k) n h a = absurd (omega arith)

-- ---- lives and seats of a run

told_last : (x : Life) → progress_of (last_word x) ≡ progress x
told_last unborn = refl
told_last (standing w e) = refl
told_last (over o) = refl

short : (x : Life) → length (last_word x) ≤ 1
short unborn = omega arith
short (standing w e) = omega arith
short (over o) = omega arith

telling_life : (x y : Life) (os : List Outcome) → last_word x ++ os ≡ last_word y → telling_all (Some (progress x)) os ≡ Some (progress y)
telling_life x y os e =
    ap (λ p. telling_all (Some p) os) (sym (told_last x)) ∙ telling_progress (last_word x) os (omega (arith, ap length e, short y))
    ∙ ap (λ l. Some (progress_of l)) e ∙ ap Some (told_last y)

no_word : (x : Life) → born x ≡ 0 → progress x ≡ None
no_word unborn h = refl
no_word (standing w e) h = refl
no_word (over o) h = absurd (omega arith)

-- a number that was not given has no seat; one that was given and not collected has a seat that tells its life
record Seated (n : ℕ) (r : Run) : Type 0 where
  untaken : given n r ≡ 0 → seat_of n (after r).seats ≡ None
  taken : given n r ≡ 1 → collected n r ≡ 0 → seat_of n (after r).seats ≡ Some (progress (life r n))

module _ (n : ℕ) (r : Run) (c : Call) (h : Seated n r) where
  untaken' : given n (r ▹ c) ≡ 0 → seat_of n (after (r ▹ c)).seats ≡ None
  untaken' g =
      let u = turn (after r) c in
      let k = (fair n (after r) c).begins in
      seat_none_left n u.spent (tell_all u.ends (sit_all u.begun (after r).seats))
      (seat_tell_all n u.ends (sit_all u.begun (after r).seats)
      ∙ ap (λ x. telling_all x (outcomes n u.ends)) (seat_sit_others n u.begun (after r).seats (omega arith) ∙ h.untaken (omega arith))
      ∙ telling_none (outcomes n u.ends))

  sat : given n (r ▹ c) ≡ 1 → collected n r ≡ 0 → seat_of n (sit_all (turn (after r) c).begun (after r).seats) ≡ Some (progress (life r n))
  sat g z = go (given n r) refl
    where
      k : among n (turn (after r) c).begun ≡ gives n (after r) c
      k = (fair n (after r) c).begins

      go : (s : ℕ) → given n r ≡ s → seat_of n (sit_all (turn (after r) c).begun (after r).seats) ≡ Some (progress (life r n))
      go zero q =
          let y : progress (life r n) ≡ None = no_word (life r n) (omega (arith, (lived n r).births)) in
          sits_down (after r) c n (h.untaken q) (omega (arith, k)) ∙ ap Some (sym y)
      go (suc s) q = seat_sit_others n (turn (after r) c).begun (after r).seats (omega (arith, k)) ∙ h.taken (omega arith) z

  taken' : given n (r ▹ c) ≡ 1 → collected n (r ▹ c) ≡ 0 → seat_of n (after (r ▹ c)).seats ≡ Some (progress (life (r ▹ c) n))
  taken' g z =
      let u = turn (after r) c in
      let s = (fair n (after r) c).spent in
      seat_vacate_all n u.spent (tell_all u.ends (sit_all u.begun (after r).seats)) (omega arith)
      ∙ seat_tell_all n u.ends (sit_all u.begun (after r).seats)
      ∙ ap (λ x. telling_all x (outcomes n u.ends)) (sat g (omega arith))
      ∙ telling_life (life r n) (life (r ▹ c) n) (outcomes n u.ends) (going_on n r c (lived n r)).words

seated : (n : ℕ) (r : Run) → Seated n r
seated n (made m) = record { untaken = λ _. unseated n m.seats; taken = λ e. absurd (omega arith) }
  where
    unseated : (n k : ℕ) → seat_of n (replicate k Free) ≡ None
    unseated n zero = refl
    unseated n (suc k) = unseated n k
seated n (r ▹ c) = record { untaken = untaken' n r c (seated n r); taken = taken' n r c (seated n r) }

pub tells : (n : ℕ) (r : Run) → given n r ≡ 1 → collected n r ≡ 0 → looked (after r) n ≡ Ok (progress (life r n))
tells n r g z = ap (λ o. ok_or o NoSeat) ((seated n r).taken g z)

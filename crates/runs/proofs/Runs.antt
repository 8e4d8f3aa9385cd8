-- Every run is safe, and so is every call on a link that a run led to.
use Rattle.std.proofs.Common.{◌≡◌, ◌≤◌, sym, refl, ap, ◌∙◌, subst}
use Rattle.link.specs.Calls.{Call, step}
use Rattle.link.specs.Views.{View}
use Rattle.runs.specs.Runs.{Run, Making, made, ◌▹◌, making, after}
use Rattle.runs.specs.Safe.{Safe, EveryRunSafe, SafeAfter, Begun}
use Rattle.runs.proofs.Going.{puts_right}
use Rattle.runs.proofs.Lived.{lived, as_lived, for_good}
use Rattle.runs.proofs.Never.{never_in_the_way}
use Rattle.runs.proofs.Sound.{sound}
use Rattle.runs.proofs.Telling.{tells}

rooms_kept : (r : Run) → (after r).rooms ≡ (making r).rooms
rooms_kept (made m) = refl
rooms_kept (r ▹ c) = rooms_kept r

safe : (r : Run) → Safe r (after r)
safe r =
    record {
      no_delivery_lost_or_ended_twice = λ n. as_lived n r;
      no_number_given_twice = λ n. (lived n r).births;
      ticket_tells_the_outcome = λ n. tells n r;
      rooms_kept = rooms_kept r;
      never_in_the_way = never_in_the_way (after r) (sound r);
      ended_for_good = λ n. for_good n r;
    }

pub every_run_safe : EveryRunSafe
every_run_safe r = (safe r, puts_right (after r))

pub safe_after : (v : View) (c : Call) (w : View) → w ≡ step v c → SafeAfter v c w
safe_after v c w s r e =
    let q : after (r ▹ c) ≡ w = ap (λ x. step x c) e.there ∙ sym s in
    (record { there = q }, subst (Safe (r ▹ c)) q (safe (r ▹ c)), puts_right v c)

pub begun : (m : Making) (v : View) → v ≡ after (made m) → m.rooms.table ≤ m.rooms.resend → Begun v
begun m v e f = (m, record { there = sym e }, subst (Safe (made m)) (sym e) (safe (made m)), subst (λ (x : View). x.rooms.table ≤ x.rooms.resend) (sym e) f)

-- A link that is made of memory whose sizes fit, and a dock that is opened with it.
use Rattle.std.proofs.Common.{◌≡◌, ℕ, suc, ◌+◌, ◌-◌, ◌^◌, ◌<◌, min, Bool, true, false, cond, replicate, Ok, Err, Result, sym, refl, ap, ◌∙◌, arith, is_ok, MatchResult}
use Rattle.std.proofs.lemmas.Bool.Decides.{nat_tests}
use Rattle.amqp.specs.declared.error.MakeError.{MakeError}
use Rattle.amqp.specs.declared.error.MakeError.TheVariants.{Sizes}
use Rattle.sink.specs.Frames.{Model}
use Rattle.sink.specs.Frames as sinks
use Rattle.link.specs.declared.seat.Seat.TheVariants.{Free}
use Rattle.link.specs.declared.settings.Settings.{Settings}
use Rattle.link.specs.Calls.{Flow, step}
use Rattle.link.specs.Views.{View, Rooms, fresh, bad_sizes, made}
use Rattle.shipping.specs.declared.report.ShipError.{ShipError}
use Rattle.shipping.specs.Archives.{Intake, untouched, granting}
use Rattle.shipping.specs.Docks.{AtRest}
use Rattle.shipping.specs.Openings.{opened}

fits : (bad : Bool) (v w : View) → ◌≡◌ {A = Result View MakeError} (Ok v) (cond bad (Err Sizes) (Ok w)) → (bad ≡ false) × (v ≡ w)
fits true v w h = let z : ◌≡◌ {A = ℕ} 0 1 = cc in absurd (omega arith)
fits false v w h = (refl, cc)

-- a link that was made is new, and its memory's sizes fit
pub new_link : (s : Settings) (rooms : Rooms) (seats : ℕ) (r : Result View MakeError) (m : Result View ShipError) (P : MakeError → Type 0) (l : View) → r ≡ made s 0 rooms seats → MatchResult r (λ x. m ≡ Ok x) P → is_ok m ≡ is_ok r → m ≡ Ok l → (bad_sizes rooms seats ≡ false) × (l ≡ fresh s 0 rooms seats)
new_link s rooms seats (Ok x) m P l h same ok e =
    let is : x ≡ l = cc in fits (bad_sizes rooms seats) l (fresh s 0 rooms seats) (ap (λ (y : View). Ok y) (sym is) ∙ h)
new_link s rooms seats (Err x) m P l h same ok e = let z : ◌≡◌ {A = ℕ} 0 1 = cc in absurd (omega arith)

-- the first credit
pub credited : (frame credit seats : ℕ) (rooms : Rooms) (v w : View) (a : Intake) → v ≡ opened frame 0 rooms seats → a ≡ untouched → credit < 2 ^ 32 → w ≡ step v (Flow (granting credit a)) → w ≡ opened frame credit rooms seats
credited frame credit seats rooms v w a e f l h =
    let n : min (0 + credit) 4294967295 - 0 ≡ credit = omega arith in
    rw (h, e, f) (ap (λ (k : ℕ). opened frame k rooms seats) n)

some_seat : (rooms : Rooms) (seats : ℕ) → bad_sizes rooms seats ≡ false → seats ≡ suc (seats - 1)
some_seat rooms seats h = grind (arith, nat_tests)

pub at_rest : (frame credit seats places widest : ℕ) (rooms : Rooms) (v : View) (q : Model) → v ≡ opened frame credit rooms seats → q ≡ sinks.empty places widest → bad_sizes rooms seats ≡ false → AtRest v q
at_rest frame credit seats places widest rooms v q e f h =
    record {
      mode = ap (λ (x : View). x.settings.snd_settle_mode) e;
      table = ap (λ (x : View). x.held.table) e;
      spare = seats - 1;
      seats = ap (λ (x : View). x.seats) e ∙ ap (λ (n : ℕ). replicate n Free) (some_seat rooms seats h);
      waiting = ap (λ (x : Model). x.waiting) f;
    }

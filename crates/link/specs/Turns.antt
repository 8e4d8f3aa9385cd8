-- What an accepted call does to a link: what stands then, which deliveries it begins and ends, and which ticket it spends.
use Rattle.std.specs.Prelude.{ℕ, List, [], ◌∷◌, Option}
use Rattle.link.specs.declared.delivery.Outcome.{Outcome}
use Rattle.link.specs.declared.flow.LinkFlowState.{LinkFlowState}
use Rattle.link.specs.declared.seat.Seat.{Seat}
use Rattle.link.specs.declared.settings.Settings.{Settings}
use Rattle.link.specs.declared.state.LinkState.{LinkState}
use Rattle.link.specs.Seats.{sit, tell, vacate}
use Rattle.link.specs.Views.{View, Held}

-- a delivery, by its number, ends
pub record End : Type 0 where
  pub number : ℕ
  pub outcome : Outcome

pub record Turn : Type 0 where
  pub state : LinkState
  pub output : Option ℕ
  pub input : Option ℕ
  pub settings : Settings
  pub flow : LinkFlowState
  pub held : Held
  pub begun : List ℕ
  pub ends : List End
  pub spent : List ℕ

-- the link stays where it is: its credit, what is held, what begins and ends, which tickets are spent
abbrev pub turned : View → LinkFlowState → Held → List ℕ → List End → List ℕ → Turn
turned v flow held begun ends spent =
    record {
      state = v.state;
      output = v.output;
      input = v.input;
      settings = v.settings;
      flow = flow;
      held = held;
      begun = begun;
      ends = ends;
      spent = spent;
    }

-- the link moves: its state, handles and settings, what is held and what ends
abbrev pub moved : View → LinkState → (output input : Option ℕ) → Settings → Held → List End → Turn
moved v state output input settings held ends =
    record {
      state = state;
      output = output;
      input = input;
      settings = settings;
      flow = v.flow;
      held = held;
      begun = [];
      ends = ends;
      spent = [];
    }

-- nothing changes
abbrev pub stay : View → Turn
stay v = turned v v.flow v.held [] [] []

-- only what is held changes, and these deliveries end
abbrev pub holding : View → Held → List End → Turn
holding v held ends = turned v v.flow held [] ends []

abbrev pub sit_all : List ℕ → List Seat → List Seat
sit_all [] ss = ss
sit_all (n ∷ ns) ss = sit_all ns (sit n ss)

abbrev pub tell_all : List End → List Seat → List Seat
tell_all [] ss = ss
tell_all (e ∷ es) ss = tell_all es (tell e.number e.outcome ss)

abbrev pub vacate_all : List ℕ → List Seat → List Seat
vacate_all [] ss = ss
vacate_all (n ∷ ns) ss = vacate_all ns (vacate n ss)

-- the link after a turn: a delivery that begins takes a seat, one that ends tells its seat, a ticket that is spent frees it
abbrev pub landed : View → Turn → View
landed v t =
    record {
      state = t.state;
      output = t.output;
      input = t.input;
      settings = t.settings;
      flow = t.flow;
      held = t.held;
      rooms = v.rooms;
      seats = vacate_all t.spent (tell_all t.ends (sit_all t.begun v.seats));
    }

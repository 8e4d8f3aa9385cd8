-- Whole runs of a link, from its making on: any calls on any input, refused ones too. Between two calls the sink may be
-- emptied or stopped, since each call that puts frames brings its own sink.
use Rattle.std.specs.Prelude.{◌≡◌, ℕ, ◌+◌, ◌≤◌, Bool, true, false, List, [], ◌∷◌, Ok, Err, Result, ◌==◌}
use Rattle.amqp.specs.declared.error.SendError.{SendError}
use Rattle.link.specs.declared.settings.Settings.{Settings}
use Rattle.link.specs.Calls.{Call, Open, Attach, Flow, Send, Disposition, Dispose, Work, Resend, Detach, Look, Collect, step}
use Rattle.link.specs.Sending.{Sent, ticket, settled, send_answer}
use Rattle.link.specs.Views.{View, Rooms, fresh}

-- what a link is made with; its count has 32 bits
pub record Making : Type 0 where
  pub settings : Settings
  pub initial : ℕ
  pub rooms : Rooms
  pub seats : ℕ
  pub counted : initial ≤ 4294967295

pub data Run : Type 0 where
  made : Making → Run
  ◌▹◌ : Run → Call → Run

infixl 20 ◌▹◌
-- what the link of a run was made with
abbrev pub making : Run → Making
making (made m) = m
making (r ▹ c) = making r

-- the link that a run leaves
abbrev pub after : Run → View
after (made m) = fresh m.settings m.initial m.rooms m.seats
after (r ▹ c) = step (after r) c

-- more calls after a run
abbrev pub ◌then◌ : Run → List Call → Run
r then [] = r
r then (c ∷ cs) = (r ▹ c) then cs

infixl 20 ◌then◌
-- the run leads to the link: a record, so that a proof of it shows its run
pub record Leads (r : Run) (v : View) : Type 0 where
  pub there : after r ≡ v

abbrev pub one : Bool → ℕ
one true = 1
one false = 0

-- how often an answer is the ticket of number n
abbrev pub ticket_in : ℕ → Result Sent SendError → ℕ
ticket_in n (Ok (ticket k)) = one (n == k)
ticket_in n (Ok (settled t)) = 0
ticket_in n (Err e) = 0

abbrev pub gives : ℕ → View → Call → ℕ
gives n v (Open handle incomplete) = 0
gives n v (Attach a pool) = 0
gives n v (Flow i) = 0
gives n v (Send c m) = ticket_in n (send_answer v c m)
gives n v (Disposition t b s) = 0
gives n v (Dispose k d) = 0
gives n v (Work c) = 0
gives n v (Resend c) = 0
gives n v (Detach closed error) = 0
gives n v (Look k) = 0
gives n v (Collect k) = 0

abbrev pub spends : ℕ → Call → ℕ
spends n (Open handle incomplete) = 0
spends n (Attach a pool) = 0
spends n (Flow i) = 0
spends n (Send c m) = 0
spends n (Disposition t b s) = 0
spends n (Dispose k d) = 0
spends n (Work c) = 0
spends n (Resend c) = 0
spends n (Detach closed error) = 0
spends n (Look k) = 0
spends n (Collect k) = one (n == k)

-- how often the calls of a run answered the ticket of number n, and how often it was collected
abbrev pub given : ℕ → Run → ℕ
given n (made m) = 0
given n (r ▹ c) = given n r + gives n (after r) c

abbrev pub collected : ℕ → Run → ℕ
collected n (made m) = 0
collected n (r ▹ c) = collected n r + spends n c

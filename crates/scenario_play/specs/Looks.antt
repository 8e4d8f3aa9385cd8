-- What the tickets that are held tell, and a ticket that is collected.
use Rattle.std.specs.Prelude.{ℕ, Option, Some, None}
use Rattle.link.specs.Calls.{Collect, step}
use Rattle.link.specs.Disposing.{looked}
use Rattle.sender.specs.declared.ticket.Ticket.{Ticket}
use Rattle.scenario_play.specs.declared.answer.Answer.{Answer}
use Rattle.scenario_play.specs.declared.answer.Answer.TheVariants.{NoTicket}
use Rattle.scenario_play.specs.Answers.{told}
use Rattle.scenario_play.specs.Scenes.{Scene, with_link, with_tickets}
use Rattle.scenario_play.specs.Tickets.{first_of, without}

abbrev pub told_by : Option Ticket → (number : ℕ) → Scene → Answer
told_by (Some t) number s = told (looked s.link t.number)
told_by None number s = NoTicket number

-- what the first ticket of a number tells
abbrev pub look_answer : Scene → (number : ℕ) → Answer
look_answer s number = told_by (first_of number s.tickets) number s

abbrev pub without_ticket : Option Ticket → (number : ℕ) → Scene → Scene
without_ticket (Some t) number s = with_tickets (without number s.tickets) (with_link (step s.link (Collect t.number)) s)
without_ticket None number s = s

-- it is spent
abbrev pub collected : (number : ℕ) → Scene → Scene
collected number s = without_ticket (first_of number s.tickets) number s

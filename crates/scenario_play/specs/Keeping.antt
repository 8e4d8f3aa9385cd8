-- What is known of a ticket: an outcome, or where its delivery stands.
use Rattle.std.specs.Prelude.{ℕ, ◌+◌, Bool, true, false, count_by, Option, Some, None, Result, Ok, Err, ◌==◌}
use Rattle.std.specs.List.{list_all}
use Rattle.amqp.specs.declared.error.TicketError.{TicketError}
use Rattle.link.specs.declared.delivery.Outcome.{Outcome}
use Rattle.link.specs.Disposing.{looked}
use Rattle.link.specs.declared.resumption.ResumingDelivery.{ResumingDelivery}
use Rattle.link.specs.Resuming.{delivery_of}
use Rattle.link.specs.Views.{View, Entry, Held}
use Rattle.sender.specs.declared.ticket.Ticket.{Ticket}
use Rattle.scenario_play.specs.Scenes.{Scene}

abbrev pub has_number : ℕ → Entry → Bool
has_number n e = e.entry.ticket == n

-- an item stands for the delivery of a number
abbrev pub is_of_number : ℕ → Option Entry → Bool
is_of_number n None = false
is_of_number n (Some e) = has_number n e

abbrev pub stands_for : ℕ → ResumingDelivery → Bool
stands_for n i = is_of_number n (delivery_of i)

-- how often the delivery of a number stands in table and lists
abbrev pub kept_count : ℕ → Held → ℕ
kept_count n h = count_by (has_number n) h.table + count_by (stands_for n) h.resume + count_by (has_number n) h.resend

abbrev pub told_or_kept : Result (Option Outcome) TicketError → (count : ℕ) → Bool
told_or_kept (Ok (Some o)) count = true
told_or_kept (Ok None) count = count == 1
told_or_kept (Err e) count = false

abbrev pub is_kept : View → Ticket → Bool
is_kept v t = told_or_kept (looked v t.number) (kept_count t.number v.held)

-- every ticket tells an outcome, or its delivery stands once in table or lists
abbrev pub all_kept : Scene → Bool
all_kept s = list_all (is_kept s.link) s.tickets

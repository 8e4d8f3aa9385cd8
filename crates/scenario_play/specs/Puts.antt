-- The lines that put frames: what they answer, and what link, sink and tickets are then.
use Rattle.std.specs.Prelude.{◌≡◌, ℕ, false, Option, List, ◌∷◌, [], ◌++◌, length, Result, Ok, Err}
use Rattle.amqp.specs.declared.error.SendError.{SendError}
use Rattle.link.specs.declared.delivery.Disposal.{Disposal}
use Rattle.link.specs.declared.delivery.Sendable.{Sendable}
use Rattle.link.specs.Calls.{Call, Send, Dispose, Work, Resend, step}
use Rattle.link.specs.Disposing.{dispose_refusal, disposed_frames}
use Rattle.link.specs.Resending.{resend_refusal, resend_answer, resent_frames}
use Rattle.link.specs.Rows.{gated}
use Rattle.link.specs.Sending.{Sent, ticket, settled, share_for, payload, frames_needed, send_refusal, send_answer, sent_frames}
use Rattle.link.specs.Working.{work_refusal, work_answer, worked_frames}
use Rattle.sender.specs.declared.ticket.Ticket.{Ticket}
use Rattle.sink.specs.Frames.{Frame, After}
use Rattle.scenario_play.specs.declared.answer.Answer.{Answer}
use Rattle.scenario_play.specs.Answers.{sent, disposed, stepped}
use Rattle.scenario_play.specs.Scenes.{Scene, carrier_of}

-- from `s` to `t` only link, sink and tickets change: the link as the call has it, and by no refusal `count` frames joined the sink
pub record Puts {E : Type 0} (call : Call) (o : Option E) (frames : List Frame) (count : ℕ) (tickets_left : List Ticket) (s t : Scene) : Type 0 where
  pub link : t.link ≡ step s.link call
  pub sink : After o s.sink t.sink frames count
  pub tickets : t.tickets ≡ tickets_left
  pub encoder : t.encoder ≡ s.encoder
  pub pool : t.pool ≡ s.pool
  pub room : t.room ≡ s.room

-- the tickets after a send: one more where it answered one
abbrev pub with_sent : Result Sent SendError → List Ticket → List Ticket
with_sent (Ok (ticket n)) ts = ts ++ record { number = n; spent = false } ∷ []
with_sent (Ok (settled t)) ts = ts
with_sent (Err e) ts = ts

pub record SendsLine (s : Scene) (m : Sendable) (a : Answer) (t : Scene) : Type 0 where
  pub answer : a ≡ sent (send_answer s.link (carrier_of s) m)
  pub puts : Puts (Send (carrier_of s) m) (send_refusal s.link (carrier_of s) m) (sent_frames s.link (carrier_of s) m) (frames_needed (share_for s.link (carrier_of s) m) (payload (carrier_of s) m)) (with_sent (send_answer s.link (carrier_of s) m) s.tickets) s t

pub record DisposesLine (s : Scene) (d : Disposal) (a : Answer) (t : Scene) : Type 0 where
  pub answer : a ≡ disposed (gated (dispose_refusal s.link s.sink) tt)
  pub puts : Puts (Dispose s.sink d) (dispose_refusal s.link s.sink) (disposed_frames s.link d) (length (disposed_frames s.link d)) s.tickets s t

pub record WorksLine (s : Scene) (a : Answer) (t : Scene) : Type 0 where
  pub answer : a ≡ stepped (work_answer s.link (carrier_of s))
  pub puts : Puts (Work (carrier_of s)) (work_refusal s.link (carrier_of s)) (worked_frames s.link (carrier_of s)) (length (worked_frames s.link (carrier_of s))) s.tickets s t

pub record ResendsLine (s : Scene) (a : Answer) (t : Scene) : Type 0 where
  pub answer : a ≡ stepped (resend_answer s.link (carrier_of s))
  pub puts : Puts (Resend (carrier_of s)) (resend_refusal s.link (carrier_of s)) (resent_frames s.link (carrier_of s)) (length (resent_frames s.link (carrier_of s))) s.tickets s t

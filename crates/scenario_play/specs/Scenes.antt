-- What a player has: its link, its sink, the encoder, the pool, the tickets that it holds, and its reader's memory.
use Rattle.std.specs.Prelude.{ℕ, List, []}
use Rattle.link.specs.Views.{View}
use Rattle.scenario_text.specs.declared.command.EncoderForm.{EncoderForm}
use Rattle.scenario_text.specs.declared.command.EncoderForm.TheVariants.{Compact}
use Rattle.sender.specs.declared.ticket.Ticket.{Ticket}
use Rattle.sink.specs.Frames.{Model}
use Rattle.link.specs.Sending.{Carrier, carrier}
use Rattle.scenario_play.specs.Chosens.{bytes_of}

pub record Scene : Type 0 where
  pub link : View
  pub sink : Model
  pub encoder : EncoderForm
  pub pool : List ℕ
  pub tickets : List Ticket
  -- how many bytes of a payload its reader takes
  pub room : ℕ

-- as it begins
abbrev pub opening : View → Model → Scene
opening link sink = record { link = link; sink = sink; encoder = Compact; pool = []; tickets = []; room = sink.widest }

-- what a call that puts frames is given
abbrev pub carrier_of : Scene → Carrier
carrier_of s = carrier (bytes_of s.encoder) s.pool s.sink

abbrev pub with_link : View → Scene → Scene
with_link v s = record { link = v; sink = s.sink; encoder = s.encoder; pool = s.pool; tickets = s.tickets; room = s.room }

abbrev pub with_sink : Model → Scene → Scene
with_sink m s = record { link = s.link; sink = m; encoder = s.encoder; pool = s.pool; tickets = s.tickets; room = s.room }

abbrev pub with_encoder : EncoderForm → Scene → Scene
with_encoder e s = record { link = s.link; sink = s.sink; encoder = e; pool = s.pool; tickets = s.tickets; room = s.room }

abbrev pub with_pool : List ℕ → Scene → Scene
with_pool p s = record { link = s.link; sink = s.sink; encoder = s.encoder; pool = p; tickets = s.tickets; room = s.room }

abbrev pub with_tickets : List Ticket → Scene → Scene
with_tickets ns s = record { link = s.link; sink = s.sink; encoder = s.encoder; pool = s.pool; tickets = ns; room = s.room }

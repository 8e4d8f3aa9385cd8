-- A whole scenario played: the line that makes the link, the line that makes its sink, and all others in their order.
use Rattle.std.specs.Prelude.{◌≡◌, ℕ, ◌≤◌, ◌<◌, ◌⊎◌, Bool, true, false, List, [], ◌∷◌, codes, length, Option, Result, Ok, Err}
use Rattle.std.specs.Io.KnownBytes.{Appends}
use Rattle.amqp.specs.declared.error.MakeError.{MakeError}
use Rattle.amqp.specs.declared.error.MakeError.TheVariants.{Sizes}
use Rattle.link.specs.Views.{View, made}
use Rattle.queue.specs.Rings.{InBounds}
use Rattle.scenario_text.specs.declared.command.Command.{Command}
use Rattle.scenario_text.specs.declared.command.Command.TheVariants.{Link, Queue, Spool}
use Rattle.scenario_text.specs.declared.command.LinkSizes.{LinkSizes}
use Rattle.scenario_text.specs.Commands.{IsCommand, words_of}
use Rattle.scenario_text.specs.Words.{words}
use Rattle.sender.specs.Views.{rooms_of}
use Rattle.sink.specs.Frames.{Model, empty}
use Rattle.spool.specs.Spools.{room_for}
use Rattle.scenario_play.specs.declared.answer.Answer.TheVariants.{Made}
use Rattle.scenario_play.specs.Answers.{unmade}
use Rattle.scenario_play.specs.Playing.{answer_line, PlaysLine}
use Rattle.scenario_play.specs.Scenes.{Scene, opening}

-- each line is played on what the one before left
abbrev pub Plays : (framewise : Bool) → (holds : List ℕ → List ℕ → Type 0) → (lines : List (List ℕ)) → (s t : Scene) → (before after : Option (List ℕ)) → Type 0
Plays framewise holds [] s t before after = (t ≡ s) × (after ≡ before)
Plays framewise holds (line ∷ lines) s t before after =
    (u : Scene) × (between : Option (List ℕ)) × PlaysLine framewise holds line s u before between × Plays framewise holds lines u t between after

-- ---- the sink

-- it was made, and the lines that follow are played from there, a step for each
pub record GoesOn (framewise : Bool) (holds : List ℕ → List ℕ → Type 0) (name : List ℕ) (v : View) (m : Model) (lines : List (List ℕ)) (steps : ℕ) (before after : Option (List ℕ)) : Type 0 where
  pub count : steps ≡ length lines
  pub begun : Option (List ℕ)
  pub last : Scene
  pub told : Appends before begun (answer_line name Made)
  pub plays : Plays framewise holds lines (opening v m) last begun after

-- a refusal is the last that is told
abbrev pub Ends : (name : List ℕ) → MakeError → (steps : ℕ) → (before after : Option (List ℕ)) → Type 0
Ends name e steps before after = (steps ≡ 0) × Appends before after (answer_line name (unmade e))

-- a sink is made exactly where its sizes are in bounds
abbrev pub PlaysSink : (holds : List ℕ → List ℕ → Type 0) → Command → View → (lines : List (List ℕ)) → (steps : ℕ) → (before after : Option (List ℕ)) → Type 0
PlaysSink holds (Queue places widest memory) v lines steps before after =
    (InBounds places memory widest × GoesOn true holds (codes "queue") v (empty places widest) lines steps before after)
    ⊎ ((InBounds places memory widest → ⊥) × Ends (codes "queue") Sizes steps before after)
PlaysSink holds (Spool memory widest) v lines steps before after =
    ((widest ≤ 65535) × GoesOn false holds (codes "spool") v (empty (room_for memory widest) widest) lines steps before after)
    ⊎ ((65535 < widest) × Ends (codes "spool") Sizes steps before after)
PlaysSink holds x v lines steps before after = ⊥

-- a line with this command's words
pub record Says (line : List ℕ) (command : Command) : Type 0 where
  pub is : IsCommand command
  pub words : words line ≡ words_of command []

abbrev pub PlaysSecond : (holds : List ℕ → List ℕ → Type 0) → View → (lines : List (List ℕ)) → (steps : ℕ) → (before after : Option (List ℕ)) → Type 0
PlaysSecond holds v [] steps before after = ⊥
PlaysSecond holds v (line ∷ lines) steps before after = (command : Command) × Says line command × PlaysSink holds command v lines steps before after

-- ---- the link

abbrev pub made_by : LinkSizes → Result View MakeError
made_by l = made l.settings l.initial_delivery_count (rooms_of l.table l.resume l.resend) l.seats

abbrev pub PlaysLink : (holds : List ℕ → List ℕ → Type 0) → Result View MakeError → (lines : List (List ℕ)) → (steps : ℕ) → (before after : Option (List ℕ)) → Type 0
PlaysLink holds (Err e) lines steps before after = Ends (codes "link") e steps before after
PlaysLink holds (Ok v) lines steps before after =
    (begun : Option (List ℕ)) × Appends before begun (answer_line (codes "link") Made) × PlaysSecond holds v lines steps begun after

-- all lines of a scenario, in so many steps after the two first
abbrev pub PlaysIn : (holds : List ℕ → List ℕ → Type 0) → (lines : List (List ℕ)) → (steps : ℕ) → (before after : Option (List ℕ)) → Type 0
PlaysIn holds [] steps before after = ⊥
PlaysIn holds (line ∷ lines) steps before after = (sizes : LinkSizes) × Says line (Link sizes) × PlaysLink holds (made_by sizes) lines steps before after

abbrev pub PlaysAll : (holds : List ℕ → List ℕ → Type 0) → (lines : List (List ℕ)) → (before after : Option (List ℕ)) → Type 0
PlaysAll holds lines before after = (steps : ℕ) × PlaysIn holds lines steps before after

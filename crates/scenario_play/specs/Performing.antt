-- What each command answers, and what the player has then.
use Rattle.std.specs.Prelude.{◌≡◌, ℕ, Bool, true, false, List, Result, Ok, Err, IsOkAnd, MatchResult}
use Rattle.link.specs.Attaching.{open_answer}
use Rattle.link.specs.Calls.{Open, Flow, Disposition, Detach, step}
use Rattle.link.specs.Credit.{flowed, flow_answer}
use Rattle.link.specs.Detaching.{detach_answer}
use Rattle.link.specs.Disposing.{settle_back}
use Rattle.sink.specs.Frames.{stopped_by}
use Rattle.scenario_text.specs.declared.command.Command.{Command}
use Rattle.scenario_text.specs.declared.command.Command.TheVariants as command
use Rattle.scenario_play.specs.declared.answer.Answer.{Answer}
use Rattle.scenario_play.specs.declared.answer.Answer.TheVariants as answer
use Rattle.scenario_play.specs.declared.trouble.Trouble.{Trouble}
use Rattle.scenario_play.specs.declared.trouble.Trouble.TheVariants.{Again, Memory}
use Rattle.scenario_text.specs.Commands.{Pair}
use Rattle.scenario_play.specs.Attaches.{AttachesLine}
use Rattle.scenario_play.specs.Answers.{opened, detached}
use Rattle.scenario_play.specs.Lines.{FillsLine, NoPool, TakesLine, NotRead, EmptiesLine, ShowsLine, StatesLine}
use Rattle.scenario_play.specs.Looks.{look_answer, collected}
use Rattle.scenario_play.specs.Puts.{SendsLine, DisposesLine, WorksLine, ResendsLine}
use Rattle.scenario_play.specs.Scenes.{Scene, with_link, with_sink, with_encoder}

-- exactly this answer, and this scene
pub record Answers (r : Result Answer Trouble) (a : Answer) (t u : Scene) : Type 0 where
  pub answer : r ≡ Ok a
  pub scene : t ≡ u

-- an answer, or no memory for it
abbrev pub OrNoMemory : Result Answer Trouble → (Answer → Type 0) → Type 0
OrNoMemory r P = MatchResult r P (λ e. e ≡ Memory)

-- `holds` says which bytes a file may have
abbrev pub Performs : (framewise : Bool) → (holds : List ℕ → List ℕ → Type 0) → Command → List Pair → Scene → Result Answer Trouble → Scene → Type 0
Performs fw holds (command.Link sizes) ps s r t = r ≡ Err Again
Performs fw holds (command.Queue places widest memory) ps s r t = r ≡ Err Again
Performs fw holds (command.Spool memory widest) ps s r t = r ≡ Err Again
Performs fw holds (command.Encoder form) ps s r t = Answers r (answer.Encoder form) t (with_encoder form s)
Performs fw holds (command.Pool source) ps s r t = MatchResult r (λ a. FillsLine holds source s a t) (NoPool holds source)
Performs fw holds (command.Open handle incomplete) ps s r t =
    Answers r (opened (open_answer s.link incomplete)) t (with_link (step s.link (Open handle incomplete)) s)
Performs fw holds (command.Attach p) ps s r t = OrNoMemory r (λ a. AttachesLine p ps s a t)
Performs fw holds (command.Flow i) ps s r t =
    Answers r (answer.Flow (flow_answer i s.link.output (flowed i s.link.flow))) t (with_link (step s.link (Flow i)) s)
Performs fw holds (command.Send m) ps s r t = OrNoMemory r (λ a. SendsLine s m a t)
Performs fw holds (command.Disposition tag settled state) ps s r t =
    Answers r (answer.Echo (settle_back s.link settled state)) t (with_link (step s.link (Disposition tag settled state)) s)
Performs fw holds (command.Dispose d) ps s r t = IsOkAnd r (λ a. DisposesLine s d a t)
Performs fw holds command.Work ps s r t = IsOkAnd r (λ a. WorksLine s a t)
Performs fw holds command.Resend ps s r t = IsOkAnd r (λ a. ResendsLine s a t)
Performs fw holds (command.Detach closed error) ps s r t =
    Answers r (detached (detach_answer s.link closed error)) t (with_link (step s.link (Detach closed error)) s)
Performs fw holds (command.Look n) ps s r t = Answers r (look_answer s n) t s
Performs fw holds (command.Collect n) ps s r t = Answers r (look_answer s n) t (collected n s)
Performs fw holds command.Take ps s r t = MatchResult r (λ a. TakesLine fw s a t) (NotRead fw false)
Performs fw holds command.Empty ps s r t = MatchResult r (λ a. EmptiesLine fw s a t) (NotRead fw true)
Performs fw holds (command.Stop reason) ps s r t = Answers r answer.Stopped t (with_sink (stopped_by reason s.sink) s)
Performs fw holds (command.Show reattaching denominator room) ps s r t = OrNoMemory r (λ a. ShowsLine reattaching denominator room s a × (t ≡ s))
Performs fw holds command.State ps s r t = OrNoMemory r (λ a. StatesLine a s.link × (t ≡ s))

-- A scenario whose sink is refused, where a reader's bytes may be unknown.
use Rattle.std.proofs.Common.{ℕ, true, List, codes, Option, Some, None, Err, IfSome, inr, sym, subst}
use Rattle.amqp.specs.declared.error.MakeError.{MakeError}
use Rattle.link.specs.Views.{View}
use Rattle.scenario_text.specs.declared.command.Command.TheVariants as command
use Rattle.scenario_play.specs.Courses.{Ends, Says, PlaysSecond}
use Rattle.scenario_play.specs.Inputs.{told_lines, Advances}
use Rattle.scenario_play.specs.Sinks.{QueueMade, SpoolMade}

pub queue_refused : (holds : List ℕ → List ℕ → Type 0) (line : List ℕ) (old new : Option (List ℕ)) (places widest memory : ℕ) (v : View) (e : MakeError) (steps : ℕ) (before after : Option (List ℕ))
    → Advances true line old new → Says line (command.Queue places widest memory) → QueueMade places widest memory (Err e)
    → Ends (codes "queue") e steps before after → IfSome old (λ xs. PlaysSecond holds v (told_lines xs) steps before after)
queue_refused holds line None new places widest memory v e steps before after next says made told = tt
queue_refused holds line (Some xs) None places widest memory v e steps before after next says made told = absurd next
queue_refused holds line (Some xs) (Some ys) places widest memory v e steps before after next says made told =
    subst (λ ls. PlaysSecond holds v ls steps before after) (sym next)
    (command.Queue places widest memory, says, inr (made.0, subst (λ x. Ends (codes "queue") x steps before after) made.1 told))

pub spool_refused : (holds : List ℕ → List ℕ → Type 0) (line : List ℕ) (old new : Option (List ℕ)) (memory widest : ℕ) (v : View) (e : MakeError) (steps : ℕ) (before after : Option (List ℕ))
    → Advances true line old new → Says line (command.Spool memory widest) → SpoolMade memory widest (Err e)
    → Ends (codes "spool") e steps before after → IfSome old (λ xs. PlaysSecond holds v (told_lines xs) steps before after)
spool_refused holds line None new memory widest v e steps before after next says made told = tt
spool_refused holds line (Some xs) None memory widest v e steps before after next says made told = absurd next
spool_refused holds line (Some xs) (Some ys) memory widest v e steps before after next says made told =
    subst (λ ls. PlaysSecond holds v ls steps before after) (sym next)
    (command.Spool memory widest, says, inr (made.0, subst (λ x. Ends (codes "spool") x steps before after) made.1 told))

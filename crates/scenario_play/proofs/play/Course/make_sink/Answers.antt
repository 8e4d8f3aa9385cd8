use Rattle.std.proofs.Common.{rules, true, vec_items, subst}
use Rattle.std.proofs.lemmas.Result.{IfOk-weaker}
use Rattle.scenario_text.specs.declared.command.Command.TheVariants.{Queue, Spool}
use Rattle.scenario_play.specs.Courses.{Says}
use Rattle.scenario_play.specs.Inputs.{Advances}
use Rattle.scenario_play.specs.Sinks.{QueueMade, SpoolMade}
use Rattle.scenario_play.proofs.Courses.{queue_refused, spool_refused}
use Rattle.scenario_play.proofs.play.Course.make_sink.Goals as goal

pub returns-in-Err : goal.returns-in-Err
returns-in-Err g c = λ none.
    let line = vec_items c.advance.new.self.line in
    let new = g.R.Read.remaining c.advance.new.self.input.reader in
    let next : Advances true line (g.R.Read.remaining c.args.self.now.lines.input.reader) new = search rules in
    let says : Says line (Queue c.in-Some-Queue.places c.in-Some-Queue.widest c.in-Some-Queue.memory) = record { is = search rules; words = search rules } in
    let made = subst (QueueMade c.in-Some-Queue.places c.in-Some-Queue.widest c.in-Some-Queue.memory) c.in-Err.is c.in_ok-queue-in-Some-Queue.ensures in
    IfOk-weaker c.tell_refused.result _ _ (λ steps. queue_refused _ line _ new _ _ _ _ _ steps _ _ next says made) c.tell_refused.ensures

pub returns-in-Err-2 : goal.returns-in-Err-2
returns-in-Err-2 g c = λ none.
    let line = vec_items c.advance.new.self.line in
    let new = g.R.Read.remaining c.advance.new.self.input.reader in
    let next : Advances true line (g.R.Read.remaining c.args.self.now.lines.input.reader) new = search rules in
    let says : Says line (Spool c.in-Some-Spool.memory c.in-Some-Spool.widest) = record { is = search rules; words = search rules } in
    let made = subst (SpoolMade c.in-Some-Spool.memory c.in-Some-Spool.widest) c.in-Err-2.is c.in_ok-spool-in-Some-Spool.ensures in
    IfOk-weaker c.tell_refused-in-Err-2.result _ _ (λ steps. spool_refused _ line _ new _ _ _ _ steps _ _ next says made) c.tell_refused-in-Err-2.ensures

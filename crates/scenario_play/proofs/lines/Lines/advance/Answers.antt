use Rattle.std.proofs.Common.{◌≡◌, Ok, sym, subst, ◌∙◌, vec_items}
use Rattle.scenario_play.proofs.Telling.{same_after, advanced, ended}
use Rattle.scenario_play.proofs.lines.Lines.advance.Goals as goal

pub returns-then-not-branch-clause-next : goal.returns-then-not-branch-clause-next
returns-then-not-branch-clause-next g c =
    ended _ (g.R.Read.remaining c.loop.self.input.reader) _ _ c.loop.invariant c.in_ok-read.ensures.line (c.read.ensures.over (subst (λ b. c.read.result ≡ Ok b) c.if-not-branch.true c.in_ok-read.was))

pub returns-then-not-is_passed_over-clause-next : goal.returns-then-not-is_passed_over-clause-next
returns-then-not-is_passed_over-clause-next g c =
    advanced _ (g.R.Read.remaining c.loop.self.input.reader) _ _ c.loop.invariant c.in_ok-read.ensures.line c.in_ok-read.ensures.rest (sym c.is_passed_over.ensures ∙ c.if-not-is_passed_over.true)

pub loop-preserved : goal.loop-preserved
loop-preserved g c =
    same_after _ (g.R.Read.remaining c.loop.self.input.reader) _ (vec_items c.read.new.self.line) c.loop.invariant c.in_ok-read.ensures.line c.in_ok-read.ensures.rest (sym c.is_passed_over.ensures ∙ c.if-not-is_passed_over.false)

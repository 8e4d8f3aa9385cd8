use Rattle.std.proofs.Common.{◌≡◌, ℕ, ◌+◌, List, length, Option, None, IfSome}
use Rattle.scenario_play.specs.Courses.{Plays}
use Rattle.scenario_play.specs.Inputs.{told_lines}
use Rattle.scenario_play.specs.Scenes.{Scene}
use Rattle.scenario_play.proofs.play.Course.go_on.Given as goal

-- what is played and counted from here on is played and counted from the beginning
abbrev pub invariant-loop-steps : goal.invariant-loop-steps
invariant-loop-steps g l = record {
  break_after : l.self.break_after ≡ l.initial.self.break_after;
  so_far : l.initial.self.break_after ≡ None → (t : Scene) → (after : Option (List ℕ))
      → IfSome (g.R.Read.remaining l.self.lines.input.reader) (λ xs. Plays g.S.Outlet.framewise (g.F.Files.holds l.files) (told_lines xs) l.player t (g.W.Write.contents l.out) after)
      → IfSome (g.R.Read.remaining l.initial.self.lines.input.reader) (λ xs. Plays g.S.Outlet.framewise (g.F.Files.holds l.files) (told_lines xs) l.initial.player t (g.W.Write.contents l.initial.out) after);
  counted : (n : ℕ) → IfSome (g.R.Read.remaining l.self.lines.input.reader) (λ xs. n ≡ l.steps + length (told_lines xs))
      → IfSome (g.R.Read.remaining l.initial.self.lines.input.reader) (λ xs. n ≡ length (told_lines xs));
}

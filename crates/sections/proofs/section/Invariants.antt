use Rattle.std.proofs.Common.{◌≡◌, ◌+◌, ◌≤◌, true, length}
use Rattle.sections.specs.Sections.{begins_at, begun_before}
use Rattle.sections.proofs.section.Given as goal

abbrev pub invariant-loop : goal.invariant-loop
invariant-loop l =
    record {
      inside : l.start + 3 ≤ length l.message;
      begins : begins_at l.message l.start ≡ true;
      number : begun_before l.message l.start ≡ l.counter;
    }

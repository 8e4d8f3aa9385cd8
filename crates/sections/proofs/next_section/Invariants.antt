use Rattle.std.proofs.Common.{◌≡◌, ◌+◌, drop}
use Rattle.sections.specs.Sections.{NoneBegins}
use Rattle.sections.proofs.next_section.Given as goal

abbrev pub invariant-loop-i : goal.invariant-loop-i
invariant-loop-i l =
    let i = l.i-iterator.count in
    record {
      size : l.i-iterator.iter.size ≡ 3;
      rest : l.i-iterator.iter.rest.now ≡ drop (l.from + i) l.message;
      none : NoneBegins l.message l.from (l.from + i);
    }

use Rattle.std.proofs.Common.{◌≡◌, ◌+◌, length, take, drop, sym, ap, ◌∙◌, arith}
use Rattle.std.proofs.lemmas.List.{length-drop, drop-drop}
use Rattle.sections.proofs.Searching.{window, begins_inside, none_one_more, none_to_end}
use Rattle.sections.proofs.next_section.Goals as goal

pub returns : goal.returns
returns c =
    let msg = c.args.message.now in
    let v = c.loop-i.invariant in
    let at = c.args.from + c.loop-i.i-iterator.count in
    let short = c.in-None.ensures.steps.0.1.0 in
    none_to_end msg c.args.from at v.none (omega (arith, short, v.size, ap length v.rest, length-drop at msg))

pub returns-then-is_section_header : goal.returns-then-is_section_header
returns-then-is_section_header c =
    let msg = c.args.message.now in
    let v = c.loop-i.invariant in
    let at = c.args.from + c.loop-i.i-iterator.count in
    let steps = c.in-Some.ensures.steps in
    let cut = steps.0.1 in
    let begins = sym (window msg c.in-Some.bytes.now at (cut.1 ∙ ap (λ n. take n c.loop-i.i-iterator.iter.rest.now) v.size ∙ ap (take 3) v.rest)) ∙ sym c.is_section_header.ensures ∙ c.if-is_section_header.true in
    rw steps.1 (omega arith, begins_inside msg at begins, begins, v.none)

pub loop-i-preserved : goal.loop-i-preserved
loop-i-preserved c =
    let msg = c.args.message.now in
    let v = c.loop-i.invariant in
    let at = c.args.from + c.loop-i.i-iterator.count in
    let steps = c.in-Some.ensures.steps in
    let cut = steps.0.1 in
    let begins = sym (window msg c.in-Some.bytes.now at (cut.1 ∙ ap (λ n. take n c.loop-i.i-iterator.iter.rest.now) v.size ∙ ap (take 3) v.rest)) ∙ sym c.is_section_header.ensures ∙ c.if-is_section_header.false in
    let next : at + 1 ≡ c.args.from + c.next.new.self.count = omega (arith, steps.2) in
    record {
      size = steps.0.0 ∙ v.size;
      rest = cut.2 ∙ ap (drop 1) v.rest ∙ drop-drop 1 at msg ∙ ap (λ k. drop k msg) next;
      none = rw (sym next) (none_one_more msg c.args.from at v.none begins);
    }

use Rattle.std.proofs.Common.{codes, sym, rules, arith, ◌∙◌, ap, Err}
use Rattle.std.proofs.lemmas.Result.{err_from_is_err_and}
use Rattle.std.proofs.lemmas.Slice.Eq.{bytes_eq-Decides}
use Rattle.std.proofs.lemmas.Bool.Decides.{nat_tests}
use Rattle.scenario_text.proofs.Digits.{dash_read, empty_read, fault_read, bytes_read}
use Rattle.scenario_text.proofs.bytes.read_bytes.Goals as goal

pub returns-then-eq : goal.returns-then-eq
returns-then-eq c =
    dash_read c.args.text.now c.new-bytes.result c.new-bytes.ensures.items ((bytes_eq-Decides c.args.text.now (codes "-")).0 (sym c.if-eq.ensures))

pub returns-then-is_empty : goal.returns-then-is_empty
returns-then-is_empty c = let e = c.if-is_empty.ensures in empty_read c.args.text.now (search rules)

pub returns-in_err-decode : goal.returns-in_err-decode
returns-in_err-decode c =
    let p = err_from_is_err_and c.from_residual.result c.from_residual.ensures.1 in
    let v = c.as_bytes.ensures.value in
    fault_read c.args.text.now c.new-bytes.result.items c.decode.new.into.items c.in_err-decode.field-0.0 c.from_residual.result (p.1 ∙ ap (λ f. Err f) p.2) (λ e. let t = (bytes_eq-Decides c.args.text.now (codes "-")).1 e in let f = c.if-eq.ensures in cc) (rw v at c.in_err-decode.ensures.added) (rw v at c.in_err-decode.ensures.odd)

pub returns : goal.returns
returns c =
    let v = c.as_bytes.ensures.value in
    bytes_read c.args.text.now c.new-bytes.result.items c.decode.new.into (λ e. let f = c.if-is_empty.ensures in grind (arith, nat_tests)) c.new-bytes.ensures.items (rw v at c.in_ok-decode.ensures.added)

use Rattle.std.proofs.Common.{◌≡◌, take, reverse, rules, tests, ◌∙◌, arith}
use Rattle.std.specs.List.{suffix_len}
use Rattle.std.proofs.lemmas.Iterator.Adapters.{YieldsList-from_rev_slice}
use Rattle.std.proofs.lemmas.Iterator.Consumers.{count_from_yields_List}
use Rattle.std.proofs.lemmas.Iterator.Search.{YieldsList-from_take_while}
use Rattle.std.proofs.lemmas.List.Folds.{length-prefix_len}
use Rattle.reader.proofs.Agrees.{is_zero, zeros}
use Rattle.reader.proofs.same.before_zeros.Goals as goal

pub returns : goal.returns
returns c =
    let front = take c.args.at c.args.src.now in
    let n : c.count-zeros.result ≡ suffix_len is_zero front =
    count_from_yields_List c.take_while.result c.count-zeros.result c.count-zeros.ensures.ran (YieldsList-from_take_while _ is_zero (YieldsList-from_rev_slice front cc) c.take_while.ensures.closure c.take_while.ensures.done (λ x r q k. search (rules, tests)))
    ∙ length-prefix_len is_zero (reverse front) in
    omega (arith, zeros c.args.src.now c.args.at c.requires)

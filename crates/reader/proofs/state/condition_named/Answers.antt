use Rattle.std.proofs.Common.{sym, ◌∙◌, rules, tests}
use Rattle.std.specs.Str.{bytes_eq}
use Rattle.std.proofs.lemmas.Iterator.{YieldsList-from_slice}
use Rattle.std.proofs.lemmas.Iterator.Adapters.{option_map_id}
use Rattle.std.proofs.lemmas.Iterator.Consumers.{YieldsList-from_copied, YieldsList-at}
use Rattle.std.proofs.lemmas.Iterator.Search.{find_from_yields_List}
use Rattle.codec.specs.Values.{condition_name}
use Rattle.reader.specs.States.{conditions, condition_of}
use Rattle.reader.proofs.state.condition_named.Goals as goal

pub returns : goal.returns
unfolding condition_of
returns c =
    sym (option_map_id c.find.result)
    ∙ find_from_yields_List (λ k. bytes_eq (condition_name k) c.args.name.now) _ _ _ c.find.ensures.ran
    (YieldsList-from_copied (YieldsList-at c.copied.ensures.source (YieldsList-from_slice conditions c.iter.ensures.rest)))
    (λ x b q k. search (rules, tests))

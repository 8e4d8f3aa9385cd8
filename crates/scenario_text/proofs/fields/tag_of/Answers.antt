use Rattle.std.proofs.Common.{length, nat_lt, refl, rules}
use Rattle.std.proofs.lemmas.List.{get_or_default}
use Rattle.scenario_text.proofs.Tags.{tag_within_is}
use Rattle.scenario_text.proofs.fields.tag_of.Goals as goal

pub returns : goal.returns
returns c =
    let s = c.args.bytes.now in
    rw c.from_slice.ensures (tag_within_is s (nat_lt 32 (length s)) refl (λ k d lt. let h = c.type_inv.bytes k in rw (get_or_default s k d 0 lt) (search rules)))

use Rattle.scenario_text.proofs.Tags.{tag_taken, tag_refused}
use Rattle.scenario_text.proofs.words.Words.tag.Goals as goal

pub returns-in-Ok : goal.returns-in-Ok
returns-in-Ok c =
    tag_taken c.args.key.now c.in_ok-value.field-0.now c.as_slice.result.now _ _ c.in-Ok.bytes c.tag_of.result _ _ c.ok_or.ensures.value c.in-Ok.ensures.printed c.as_slice.ensures.value c.tag_of.ensures c.in_ok-value.ensures

pub returns-in-Err : goal.returns-in-Err
returns-in-Err c =
    tag_refused c.args.key.now c.in_ok-value.field-0.now _ _ _ c.in-Err.fault _ c.of_digits.ensures c.in-Err.ensures.refused c.in_ok-value.ensures

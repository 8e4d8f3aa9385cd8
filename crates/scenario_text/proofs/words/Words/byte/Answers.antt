use Rattle.scenario_text.proofs.Tags.{byte_taken, byte_refused}
use Rattle.scenario_text.proofs.words.Words.byte.Goals as goal

pub returns-in-Ok : goal.returns-in-Ok
returns-in-Ok c =
    byte_taken c.args.key.now c.in_ok-value.field-0.now c.as_slice.result.now _ _ c.in-Ok.bytes c.one_of.result _ _ c.ok_or.ensures.value c.in-Ok.ensures.printed c.as_slice.ensures.value c.one_of.ensures c.in_ok-value.ensures

pub returns-in-Err : goal.returns-in-Err
returns-in-Err c =
    byte_refused c.args.key.now c.in_ok-value.field-0.now _ _ _ c.in-Err.fault _ c.of_digits.ensures c.in-Err.ensures.refused c.in_ok-value.ensures

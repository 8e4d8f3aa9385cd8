use Rattle.std.proofs.Common.{Err, string_bytes, ap, ◌∙◌, inl, inr, ⊎_elim}
use Rattle.std.proofs.lemmas.Result.{err_from_is_err_and}
use Rattle.shipping.specs.declared.options.UsageError.{UsageError}
use Rattle.shipping.specs.Words.{unread}
use Rattle.shipping.proofs.Wording.{word_taken, stops_at, refused, whole_read, finished}
use Rattle.shipping.proofs.options.parse.Goals as goal

pub loop-word-preserved : goal.loop-word-preserved
loop-word-preserved c =
    word_taken string_bytes c.args.words.now c.loop-word.word-index c.word-item.result c.as_str.result.now unread c.loop-word.reading c.read.new.self c.loop-word-test.true c.word-item.is c.as_str.ensures.value c.loop-word.invariant c.in_ok-read.ensures

pub returns-in_err-read : goal.returns-in_err-read
returns-in_err-read c =
    let p = err_from_is_err_and c.from_residual.result c.from_residual.ensures.1 in
    refused _ c.from_residual.result c.in_err-read.field-0.0 _ unread (p.1 ∙ ap (λ (e : UsageError). Err e) p.2)
    (⊎_elim (λ m. inl m)
    (λ stuck. inr (stops_at string_bytes c.args.words.now c.loop-word.word-index c.word-item.result c.as_str.result.now unread c.loop-word.reading c.loop-word-test.true c.word-item.is c.as_str.ensures.value c.loop-word.invariant stuck))
    c.in_err-read.ensures)

pub returns : goal.returns
returns c =
    finished _ unread c.loop-word.reading c.finish.result (whole_read string_bytes c.args.words.now c.loop-word.word-index unread c.loop-word.reading c.loop-word-test.false c.loop-word.invariant) c.finish.ensures

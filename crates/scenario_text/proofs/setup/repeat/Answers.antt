use Rattle.std.proofs.lemmas.Result.{err_from_is_err_and}
use Rattle.scenario_text.specs.Commands.{pool_words, IsPool}
use Rattle.scenario_text.proofs.Takings.{refuses_too, refuses_with_memory}
use Rattle.scenario_text.proofs.Pools.{repeated, not_read}
use Rattle.scenario_text.proofs.setup.repeat.Goals as goal

pub returns-in_err-byte : goal.returns-in_err-byte
returns-in_err-byte c =
    let p = err_from_is_err_and c.from_residual-in_err-byte.result c.from_residual-in_err-byte.ensures.1 in
    refuses_with_memory pool_words IsPool _ _ _ _ _ p.1 p.2 (λ there x rest fits e. let r = repeated _ _ x rest fits e in c.in_err-byte.ensures.refused there r.byte rest r.is_byte r.behind)

pub returns-in_err-count : goal.returns-in_err-count
returns-in_err-count c =
    refuses_too pool_words IsPool _ _ _ c.from_residual.ensures.0 (λ x rest fits e. let r = repeated _ _ x rest fits e in not_read _ _ _ _ r.times c.ok_or.ensures.value c.in_err-count.was (c.read_number.ensures.back r.times r.bound r.written))

use Rattle.std.proofs.Common.{◌∙◌, sym}
use Rattle.scenario_text.specs.Commands.{pool_words, IsPool}
use Rattle.scenario_text.proofs.Takings.{refuses_too}
use Rattle.scenario_text.proofs.Pools.{no_pool_of_none}
use Rattle.scenario_text.proofs.setup.source.Goals as goal

pub returns-in_err-word : goal.returns-in_err-word
returns-in_err-word c =
    refuses_too pool_words IsPool _ _ _ c.from_residual.ensures.0 (λ x rest fits e. no_pool_of_none x rest (sym c.in_err-word.ensures ∙ e))

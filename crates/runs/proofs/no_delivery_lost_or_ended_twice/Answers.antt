use Rattle.runs.proofs.Runs.{every_run_safe}
use Rattle.runs.proofs.no_delivery_lost_or_ended_twice.Goals as goal

pub returns : goal.returns
returns c = every_run_safe

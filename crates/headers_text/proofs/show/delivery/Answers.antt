use Rattle.std.proofs.Common.{append_assoc, rules}
use Rattle.headers_text.proofs.show.delivery.Goals as goal

pub returns : goal.returns
returns g c = search (rules, append_assoc)

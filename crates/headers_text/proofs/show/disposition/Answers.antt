use Rattle.std.proofs.Common.{append_assoc}
use Rattle.amqp.specs.Texts.{state_text}
use Rattle.headers_text.proofs.Absent.{or_none_is}
use Rattle.headers_text.proofs.show.disposition.Goals as goal

pub returns : goal.returns
returns g c = simp append_assoc (rw (or_none_is state_text c.args.h.now.state) at c.write.ensures.writes)

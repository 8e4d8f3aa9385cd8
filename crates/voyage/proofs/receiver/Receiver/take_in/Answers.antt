use Rattle.std.proofs.Common.{rules}
use Rattle.voyage.proofs.receiver.Receiver.take_in.Goals as goal

pub returns : goal.returns
returns c =
    (c.in_ok-tag.tag, c.in_ok-tag.kept, search rules, search rules, search rules)

use Rattle.spool.proofs.Laying.{room_of}
use Rattle.spool.proofs.spool.Spool.bytes_for.Goals as goal

pub returns-clause-room : goal.returns-clause-room
returns-clause-room c = room_of c.checked_mul.result _ c.args.places c.args.widest c.checked_mul.ensures

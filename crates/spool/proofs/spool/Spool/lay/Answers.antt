use Rattle.std.proofs.Common.{length, refl, arith}
use Rattle.sink.specs.Frames.{waiting_of}
use Rattle.spool.specs.Records.{record_of}
use Rattle.spool.specs.Memories.{laid, free}
use Rattle.spool.proofs.Laying.{laid_behind, record_short, roomy, falls}
use Rattle.spool.proofs.spool.Spool.lay.Goals as goal

pub append_record-requires-clause-room : goal.append_record-requires-clause-room
append_record-requires-clause-room c = let s = c.args.self.now in omega (arith, roomy (free s.memory) s.widest c.requires.room, c.requires.narrow)

pub invariant_of-self : goal.invariant_of-self
invariant_of-self c =
    let s = c.args.self.now in
    record {
      narrow = s.narrow;
      whole = (laid_behind (laid s.memory) (laid c.append_record.new.self) (waiting_of c.args.frame) c.append_record.ensures.fits s.whole c.append_record.ensures.laid).whole;
    }

pub returns : goal.returns
returns c =
    let s = c.args.self.now in
    let f = waiting_of c.args.frame in
    let v = falls (free s.memory) (free c.append_record.new.self) s.widest (length (record_of f)) c.append_record.ensures.free (omega (arith, record_short f, c.requires.narrow)) in
    record {
      waiting = (laid_behind (laid s.memory) (laid c.append_record.new.self) f c.append_record.ensures.fits s.whole c.append_record.ensures.laid).frames;
      low = v.0;
      high = v.1;
      widest = refl;
      stopped = refl;
    }

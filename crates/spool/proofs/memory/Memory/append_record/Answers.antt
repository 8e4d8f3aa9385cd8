use Rattle.std.proofs.Common.{◌+◌, ◌++◌, length, replicate, take, sym, ap, ◌∙◌, lit≤}
use Rattle.std.specs.Int.{w16, w32, to_le_bytes}
use Rattle.codec.specs.Headers.{compact_bytes}
use Rattle.spool.specs.Memories.{laid}
use Rattle.spool.proofs.Exact.{same_record}
use Rattle.spool.proofs.Writing.{is_written, front, pieces}
use Rattle.spool.proofs.memory.Memory.append_record.Goals as goal

pub unwrap-size-requires : goal.unwrap-size-requires
unwrap-size-requires c = is_written c.args.frame.header (replicate 255 0) _ (lit≤ tt) c.write.ensures.answer

pub returns-clause-laid : goal.returns-clause-laid
returns-clause-laid c =
    let f = c.args.frame in
    let p = f.payload.now in
    let n = c.unwrap-size.result in
    let x = take n c.write.new.out in
    let w = front f.header (replicate 255 0) c.write.new.out c.write.result n (lit≤ tt) c.write.ensures.answer c.write.ensures.after c.unwrap-size.ensures in
    let s = w.0 ∙ sym (ap length w.1) in
    let rest = c.to_le_bytes.ensures ∙ ap (λ m. to_le_bytes w32 (8 + m + length p)) s in
    let code = c.to_le_bytes-2.ensures ∙ ap (to_le_bytes w16) c.code_of.ensures in
    let size = c.to_le_bytes-4.ensures ∙ ap (to_le_bytes w16) s in
    pieces (laid c.args.self.now) (laid c.append.new.self) (laid c.append-2.new.self) (laid c.append-3.new.self) (laid c.append-4.new.self) (laid c.append-5.new.self) (laid c.append-6.new.self) c.to_le_bytes.result c.to_le_bytes-2.result c.to_le_bytes-3.result c.to_le_bytes-4.result x p
    c.append.ensures.laid c.append-2.ensures.laid c.append-3.ensures.laid c.append-4.ensures.laid c.append-5.ensures.laid c.append-6.ensures.laid
    ∙ ap (λ r. laid c.args.self.now ++ r) (same_record c.to_le_bytes.result c.to_le_bytes-2.result c.to_le_bytes-3.result c.to_le_bytes-4.result x p (compact_bytes f.header) f.kind f.handle rest code c.to_le_bytes-3.ensures size w.1)

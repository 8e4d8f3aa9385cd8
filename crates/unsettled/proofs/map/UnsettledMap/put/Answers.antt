use Rattle.std.proofs.Common.{◌+◌, sym, arith}
use Rattle.std.proofs.lemmas.List.{length-take-le}
use Rattle.std.proofs.lemmas.Bool.{leb-false}
use Rattle.unsettled.specs.Indexes.{keys_of}
use Rattle.unsettled.specs.Keyed.{key_of}
use Rattle.unsettled.proofs.Keyed.{keyed_fewer, slot_over, slot_next}
use Rattle.unsettled.proofs.map.UnsettledMap.put.Goals as goal

pub invariant_of-self-clause-keyed : goal.invariant_of-self-clause-keyed
invariant_of-self-clause-keyed g c =
    let m = c.args.self.now in
    slot_over c.args.tag c.args.entry (keys_of m.index) m.len m.slots.now c.in-Some.i m.keyed m.fits c.in-Some.ensures.value

pub invariant_of-self-2-clause-keyed : goal.invariant_of-self-2-clause-keyed
invariant_of-self-2-clause-keyed g c =
    let m = c.args.self.now in
    rw (c.write.ensures.slots, c.write.ensures.keys)
    (keyed_fewer key_of _ (m.len + 1) _ _ (omega arith)
    (slot_next (keys_of m.index) m.len m.slots.now (record { tag = c.args.tag; entry = c.args.entry }) m.keyed (omega (arith, length-take-le m.len m.slots.now m.fits, leb-false _ _ (sym c.if-is_full.ensures)))))

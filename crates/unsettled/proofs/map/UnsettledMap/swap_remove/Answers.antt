use Rattle.std.proofs.Common.{◌-◌, arith}
use Rattle.std.proofs.lemmas.List.{length-take-le}
use Rattle.unsettled.specs.Indexes.{keys_of}
use Rattle.unsettled.specs.Keyed.{key_of}
use Rattle.unsettled.proofs.Keyed.{keyed_fewer, keyed_past, slot_swapped}
use Rattle.unsettled.proofs.map.UnsettledMap.swap_remove.Goals as goal

pub invariant_of-self-clause-keyed : goal.invariant_of-self-clause-keyed
invariant_of-self-clause-keyed g c =
    let m = c.args.self.now in
    let n = m.len - 1 in
    let xs = m.slots.now in
    rw c.remove.ensures (keyed_past key_of (keys_of m.index) n n xs (omega arith) (keyed_fewer key_of (keys_of m.index) m.len n xs (omega arith) m.keyed))

pub invariant_of-self-2-clause-keyed : goal.invariant_of-self-2-clause-keyed
invariant_of-self-2-clause-keyed g c =
    let m = c.args.self.now in
    slot_swapped (keys_of m.index) _ _ m.len c.in_ok-i.i m.slots.now _ _ m.keyed (omega (arith, c.in_ok-i.ensures.within, length-take-le m.len m.slots.now m.fits)) c.write.ensures.slots c.remove.ensures c.write.ensures.keys

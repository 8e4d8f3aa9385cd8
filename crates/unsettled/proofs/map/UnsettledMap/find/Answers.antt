use Rattle.std.proofs.Common.{◌<◌, length, sym, ap, ◌∙◌, subst, arith}
use Rattle.std.specs.List.{position}
use Rattle.std.proofs.lemmas.List.{length-take-le}
use Rattle.unsettled.specs.Indexes.{keys_of, is_key}
use Rattle.unsettled.specs.Keys.{mixed}
use Rattle.unsettled.specs.Tables.{same_tag}
use Rattle.unsettled.proofs.Indexes.{keys_len}
use Rattle.unsettled.proofs.Keyed.{slot_first, slot_behind, slot_nowhere}
use Rattle.unsettled.proofs.map.UnsettledMap.find.Goals as goal

pub returns-in-Some-clause-value : goal.returns-in-Some-clause-value
unfolding same_tag
returns-in-Some-clause-value g c =
    let m = c.args.self.now in
    let e = sym c.in-Some.is ∙ c.find.ensures ∙ ap (λ k. position (is_key k) (keys_of m.index)) (c.key_of_bytes.ensures ∙ ap mixed c.as_slice.ensures) in
    slot_first c.args.tag.now (keys_of m.index) m.len m.slots.now c.in-Some.i c.index-slots-i.result m.keyed m.fits e (subst (λ ys. c.in-Some.i < length ys) c.front-slots.ensures c.if-i-slots.true)
    (rw c.front-slots.ensures at (sym c.if-eq.ensures))

pub returns-in-Some-2-clause-value : goal.returns-in-Some-2-clause-value
returns-in-Some-2-clause-value g c =
    let m = c.args.self.now in
    let e = sym c.in-Some-2.is ∙ c.find.ensures ∙ ap (λ k. position (is_key k) (keys_of m.index)) (c.key_of_bytes.ensures ∙ ap mixed c.as_slice.ensures) in
    slot_behind c.args.tag.now (keys_of m.index) m.len m.slots.now c.in-Some-2.i m.keyed m.fits
    (omega (arith, c.if-i-slots-2.true, ap length c.front-slots.ensures, length-take-le m.len m.slots.now m.fits)) e

pub returns-in-None-clause-value : goal.returns-in-None-clause-value
returns-in-None-clause-value g c =
    let m = c.args.self.now in
    let e = sym c.in-None.is ∙ c.find.ensures ∙ ap (λ k. position (is_key k) (keys_of m.index)) (c.key_of_bytes.ensures ∙ ap mixed c.as_slice.ensures) in
    let n = keys_len m.index in
    slot_nowhere c.args.tag.now (keys_of m.index) m.len m.slots.now m.keyed m.fits
    (omega (arith, n, c.if-slots-le-PLACES.true, ap length c.front-slots.ensures, length-take-le m.len m.slots.now m.fits)) e

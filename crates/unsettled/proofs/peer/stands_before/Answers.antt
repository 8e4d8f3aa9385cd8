use Rattle.std.proofs.Common.{None, sym, ap, ◌∙◌, arith}
use Rattle.std.specs.List.{position}
use Rattle.std.proofs.lemmas.List.Quantifiers.{position-Some}
use Rattle.unsettled.specs.Indexes.{keys_of, is_key}
use Rattle.unsettled.proofs.Indexes.{keys_len}
use Rattle.unsettled.proofs.Repeats.{stands_early, stands_nowhere}
use Rattle.unsettled.proofs.peer.stands_before.Goals as goal

pub returns-in-Some : goal.returns-in-Some
returns-in-Some c =
    let i = c.args.index.now in
    let n = keys_len i in
    let f = position-Some (is_key c.key_of_bytes.result) (keys_of i) c.in-Some.j None (sym c.find.ensures ∙ c.in-Some.is) in
    stands_early c.args.pairs.now c.args.i c.in-Some.j c.requires.place c.if-j-i.true (omega (arith, n, f.0)) (sym c.if-eq.ensures)

pub returns-in-None : goal.returns-in-None
returns-in-None c =
    let i = c.args.index.now in
    stands_nowhere c.args.pairs.now (keys_of i) c.args.i c.requires.place (keys_len i) c.requires.keyed
    (sym c.in-None.is ∙ c.find.ensures ∙ ap (λ k. position (is_key k) (keys_of i)) c.key_of_bytes.ensures)

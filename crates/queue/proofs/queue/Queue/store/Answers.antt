use Rattle.std.proofs.Common.{◌+◌, ◌-◌, ◌*◌, length, sym, refl, ap, ◌∙◌, arith}
use lib.Seq.{paste}
use Rattle.std.proofs.lemmas.List.Edits.{length-paste}
use Rattle.std.proofs.lemmas.List.{with_items_is}
use Rattle.std.proofs.lemmas.Slice.{put_mid-paste}
use Rattle.queue.proofs.Slots.{within}
use Rattle.queue.proofs.Waiting.{put_frames}
use Rattle.queue.proofs.queue.Queue.store.Goals as goal

pub returns : goal.returns
returns c =
    let q = c.args.self.now in
    let ps = q.places in
    let bs = q.bytes in
    let p = c.args.frame.payload.now in
    let s = c.slot_at-s.ensures.value in
    let at = c.slot_at-s.result * q.widest in
    let i = within c.slot_at-s.result ps.len q.widest (length p) bs.len c.slot_at-s.ensures.inside q.room.1 c.requires.narrow in
    let b = put_mid-paste at ((at + length p) - at) c.deref_mut.result.now c.copy_from_slice.new.self p (length p) c.copy_from_slice.ensures.after (omega arith) refl ∙ ap (λ d. paste d at p (length p)) c.deref_mut.ensures.value in
    let n = ap length b ∙ length-paste bs.items at p (length p) (omega (arith, i, bs.ok.0)) (omega arith) ∙ sym bs.ok.0 in
    record {
      waiting = put_frames ps.items bs.items _ q.widest ps.len q.head q.used c.slot_at-s.result _ p ps.ok.0 (omega (arith, q.ring.0, c.requires.place)) c.requires.place (omega (arith, q.room.1, bs.ok.0)) q.sized c.requires.narrow (omega arith) s (with_items_is bs _ n ∙ b);
      low = omega (arith, c.requires.place);
      high = omega (arith, c.requires.place);
      widest = refl;
      stopped = refl;
    }

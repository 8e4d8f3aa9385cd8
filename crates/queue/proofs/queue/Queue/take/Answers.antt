use Rattle.std.proofs.Common.{◌≡◌, ◌+◌, ◌-◌, ◌*◌, ◌++◌, get_or, take, drop, Some, Ok, sym, ap, ◌∙◌, arith, rules}
use Rattle.queue.specs.declared.place.Place.{Place}
use Rattle.queue.specs.declared.queue.Queue.{Queue}
use Rattle.queue.specs.Queues.{model_of}
use Rattle.queue.specs.Rings.{frame_of, frames_in}
use Rattle.queue.proofs.Waiting.{rest_sized, Oldest, oldest, took, freed_is, short}
use Rattle.queue.proofs.queue.Queue.take.Goals as goal

at_head : (q : Queue) (x : Place) → (q.used ≡ 0 → ⊥) → x ≡ get_or q.places.items q.head x → Oldest q.places.items q.bytes.items q.widest q.places.len q.head q.used x
at_head q x some read =
    oldest q.places.items q.bytes.items q.widest q.places.len q.head q.used x q.places.ok.0 q.ring.0 q.ring.1 some (omega (arith, q.room.1, q.bytes.ok.0)) q.sized read

pub returns-then-out-size : goal.returns-then-out-size
returns-then-out-size c =
    let q = c.args.self.now in
    let x = c.index-place.result.now in
    let o = at_head q x c.if-self-eq0.false c.index-place.ensures in
    let k = short (model_of q) (frame_of x (drop (q.head * q.widest) q.bytes.items)) _ c.args.out.now o.first (omega (arith, o.len, c.if-out-size.true)) in
    record { answer = sym k.answer; after = sym k.after; read = sym k.read }

pub slice_bounds-copy_from_slice-end-3 : goal.slice_bounds-copy_from_slice-end-3
slice_bounds-copy_from_slice-end-3 c =
    let q = c.args.self.now in
    let x = c.index-place.result.now in
    let o = at_head q x c.if-self-eq0.false c.index-place.ensures in
    let i = o.inside in
    search rules

pub invariant_of-self-2 : goal.invariant_of-self-2
invariant_of-self-2 c =
    let q = c.args.self.now in
    let ps = q.places in
    let s = c.slot_at-self.ensures.value in
    record {
      room = q.room;
      ring = (omega (arith, c.slot_at-self.ensures.inside), omega (arith, q.ring));
      sized = rw s (rest_sized ps.items ps.len q.widest q.head q.used q.sized);
    }

pub returns : goal.returns
returns c =
    let q = c.args.self.now in
    let x = c.index-place.result.now in
    let o = at_head q x c.if-self-eq0.false c.index-place.ensures in
    let f = frame_of x (drop (q.head * q.widest) q.bytes.items) in
    let out = c.args.out.now in
    let at = q.head * q.widest in
    let s = c.slot_at-self.ensures.value in
    let k = took (model_of q) f _ out o.first (omega (arith, o.len, c.if-out-size.false)) in
    let n : (at + x.size) - at ≡ x.size = omega arith in
    let copied = c.copy_from_slice.ensures.after ∙ ap (λ m. take m (drop at c.deref.result.now)) n ∙ ap (λ bs. take x.size (drop at bs)) c.deref.ensures.value in
    record {
      answer = ap (λ m. Ok (Some (record { kind = x.kind; handle = x.handle; header = x.header; size = m }))) (sym o.len) ∙ sym k.answer;
      after = freed_is (model_of q) _ _ (q.places.len - (q.used - 1)) (ap (λ h. frames_in q.places.items q.bytes.items q.widest q.places.len h (q.used - 1)) s) (omega (arith, q.ring.1, c.if-self-eq0.false)) ∙ sym k.after;
      read = ap (λ l. l ++ drop x.size out) copied ∙ ap (λ m. f.payload ++ drop m out) (sym o.len) ∙ sym k.read;
    }

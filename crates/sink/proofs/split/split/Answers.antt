use Rattle.std.proofs.Common.{◌≡◌, ℕ, suc, ◌+◌, ◌-◌, ◌<◌, Bool, min, max, ltb, List, ◌++◌, length, drop, None, Ok, Result, sym, refl, ap, ◌∙◌, arith, rules}
use Rattle.std.proofs.lemmas.List.{length-drop}
use Rattle.std.specs.Slice.Iter.{chunk_count}
use Rattle.amqp.specs.declared.error.SinkError.{SinkError}
use Rattle.amqp.specs.declared.header.FrameKind.TheVariants.{First, Continuation}
use Rattle.amqp.specs.declared.header.Header.TheVariants.{Transfer}
use Rattle.amqp.specs.declared.header.Transfer.{Transfer as Transferring}
use Rattle.amqp.specs.Headers.{with_id_more, continuation_of}
use Rattle.sink.specs.Frames.{frame, Model, answer, fault_at}
use Rattle.sink.specs.Cuts.{count_of, frame_at, part, split_fault}
use Rattle.sink.proofs.Room.{none_from_ok, never_err}
use Rattle.sink.proofs.Growing.{after_none}
use Rattle.sink.proofs.Cutting.{begun_none, begun_more, part_left, part_is, room_next, all_put, count_more}
use Rattle.sink.proofs.split.split.Goals as goal

-- how many parts there are, from those past the first
all_parts : (msg rest : List ℕ) (s cut count : ℕ) → 0 < s → cut ≡ min s (length msg) → rest ≡ drop cut msg → count ≡ chunk_count (length rest) s → count + 1 ≡ count_of (length msg) s
all_parts msg rest s cut count p w b n =
    let l : length rest ≡ length msg - min s (length msg) = ap length b ∙ length-drop cut msg ∙ ap (λ k. length msg - k) w in
    ap (λ k. k + 1) (n ∙ ap (λ k. chunk_count k s) l) ∙ count_more (length msg) s p

-- where the sink said that it has room, it has room for the whole message
has_room : (a : Model) (msg first : List ℕ) (s cut count : ℕ) (r : Result (Unit {0}) SinkError) (u : Unit {0}) → cut ≡ min s (length msg) → length first ≡ cut → count + 1 ≡ count_of (length msg) s → r ≡ Ok u → r ≡ answer (fault_at a (length first) (1 + count)) → split_fault a msg s ≡ None
has_room a msg first s cut count r u w f n ok e =
    let k : 1 + count ≡ count_of (length msg) s = omega (arith, n) in
    ap (λ i. fault_at a i (count_of (length msg) s)) (sym (f ∙ w)) ∙ ap (fault_at a (length first)) (sym k) ∙ none_from_ok _ r u ok e

-- what is put is the frame of that part
first_frame : (h : Transferring) (handle s count : ℕ) (msg p : List ℕ) (more : Bool) → count + 1 ≡ count_of (length msg) s → p ≡ part msg s 0 → more ≡ ltb 0 count → frame First handle (Transfer (with_id_more h h.delivery_id more)) p ≡ frame_at h handle s (count_of (length msg) s) msg 0
first_frame h handle s count msg p more n e b = let x : ltb 0 count ≡ ltb (0 + 1) (count + 1) = search rules in rw (b ∙ x ∙ ap (ltb (0 + 1)) n, e)

later_frame : (h k : Transferring) (handle s count i : ℕ) (msg p : List ℕ) (more : Bool) → k ≡ continuation_of h → count + 1 ≡ count_of (length msg) s → p ≡ part msg s (i + 1) → more ≡ ltb (i + 1) count → frame Continuation handle (Transfer (with_id_more k k.delivery_id more)) p ≡ frame_at h handle s (count_of (length msg) s) msg (i + 1)
later_frame h k handle s count i msg p more c n e b =
    let x : ltb (i + 1) count ≡ ltb (suc i + 1) (count + 1) = search rules in
    let j : i + 1 ≡ suc i = omega arith in
    rw (c, j, b ∙ x ∙ ap (ltb (suc i + 1)) n, e ∙ ap (part msg s) j)

pub loop-i-init : goal.loop-i-init
loop-i-init g c =
    let m = g.S.Sink.model in
    let a = m c.args.sink.now in
    let msg = c.args.message.now in
    let first = c.split_at.result.0.now in
    let rest = c.split_at.result.1.now in
    let s = max 1 c.args.share in
    let t : c.max-share.result ≡ s = omega (arith, c.max-share.ensures) in
    let w : c.min.result ≡ min s (length msg) = omega (arith, c.min.ensures, t) in
    let k : c.len-count.result ≡ chunk_count (length rest) s = c.len-count.ensures.value ∙ c.chunks-parts.ensures.count ∙ ap (chunk_count (length rest)) t in
    let n = all_parts msg rest s c.min.result c.len-count.result (omega arith) w c.split_at.ensures.back k in
    let e = has_room a msg first s c.min.result c.len-count.result c.ask_room.result _ w c.split_at.ensures.front_len n c.in_ok-ask_room.was c.ask_room.ensures in
    let b = begun_none a c.args.transfer.now c.args.handle s msg e in
    let j : msg ≡ first ++ rest = c.split_at.ensures.by_index.0 in
    let z : length first ≡ min s (length msg) = c.split_at.ensures.front_len ∙ w in
    let f = first_frame c.args.transfer.now c.args.handle s c.len-count.result msg first _ n (part_is first rest b j z) refl in
    let d = begun_more first rest _ b (omega arith) j z f c.put.ensures.after in
    let q = c.into_iter-i-iterator.ensures.into_iter_gives in
    let parts : c.into_iter-i-iterator.result.iter ≡ c.chunks-parts.result = ap (λ x. x.iter) q ∙ c.enumerate-i-items.ensures.source in
    let size = ap (λ x. x.size) parts ∙ c.chunks-parts.ensures.size ∙ t in
    let left = ap (λ x. x.rest.now) parts ∙ c.chunks-parts.ensures.rest in
    let count = ap (λ x. x.count) q ∙ c.enumerate-i-items.ensures.count in
    record { size = size; all = n; begun = rw (count, left) d }

pub loop-i-preserved : goal.loop-i-preserved
loop-i-preserved g c =
    let v = c.loop-i.invariant in
    let i = c.loop-i.i-iterator.count in
    let msg = c.args.message.now in
    let s = max 1 c.args.share in
    let p = c.in-Some.part.now in
    let left = c.next.new.self.iter.rest.now in
    let steps = c.in-Some.ensures.steps in
    let cut = steps.0.1 in
    let w = cut.1 ∙ ap (λ k. min k (length c.loop-i.i-iterator.iter.rest.now)) v.size in
    let l = part_left (omega arith) v.begun cut.2 in
    let e = part_is p left v.begun cut.0 w in
    let f = later_frame c.args.transfer.now c.continuation.result c.args.handle s c.len-count.result i msg p _ c.continuation.ensures v.all e (ap (λ k. ltb (k + 1) c.len-count.result) steps.1) in
    let d = begun_more p left _ v.begun l cut.0 w f c.put-in-loop-i.ensures.after in
    record { size = steps.0.0 ∙ v.size; all = v.all; begun = rw steps.2 d }

pub returns-in_err-put-2 : goal.returns-in_err-put-2
returns-in_err-put-2 g c =
    let v = c.loop-i.invariant in
    let p = c.in-Some.part.now in
    let left = c.next.new.self.iter.rest.now in
    let steps = c.in-Some.ensures.steps in
    let cut = steps.0.1 in
    let w = cut.1 ∙ ap (λ k. min k (length c.loop-i.i-iterator.iter.rest.now)) v.size in
    let l = part_left (omega arith) v.begun cut.2 in
    let n = room_next p v.begun l (part_is p left v.begun cut.0 w) in
    absurd (never_err _ c.put-in-loop-i.result _ n c.in_err-put-2.was c.put-in-loop-i.ensures.answer)

pub returns : goal.returns
returns g c =
    let v = c.loop-i.invariant in
    let steps = c.in-None.ensures.steps in
    let grown = all_put (omega arith) v.begun (omega arith) steps.0.1.0 in
    record { answer = sym (ap answer v.begun.room); after = after_none _ v.begun.room grown }

-- The frames of a ring: one more after a put, one fewer after a take.
use Rattle.std.proofs.Common.{◌≡◌, ℕ, suc, ◌+◌, ◌-◌, ◌*◌, ◌<◌, ◌≤◌, ◌≢◌, List, [], ◌∷◌, ◌++◌, length, get_or, take, drop, set, Some, Ok, Err, sym, refl, ap, ◌∙◌, ⊎_elim, mod-lt, mod-eq_of_lt, arith}
use lib.Seq.{paste}
use Rattle.std.proofs.lemmas.List.{take_at, length-take, length-drop, get_or-set_same, get_or-set_other, get_or_read_under}
use Rattle.std.proofs.lemmas.List.FromFn.{map-range_with_len_more, length-map-range_with_len}
use Rattle.std.proofs.lemmas.Bool.{cases_lt, lt-ltb, le-ltb}
use Rattle.amqp.specs.declared.error.MemoryError.TheVariants.{TooShort}
use Rattle.sink.specs.Frames.{Frame, frame, Model}
use Rattle.queue.specs.declared.place.Place.{Place}
use Rattle.queue.specs.Rings.{blank, slot, place_at, Sized, frame_of, frame_in, frames_in}
use Rattle.queue.specs.Reading.{taken, place_of, freed, left, read_into}
use Rattle.queue.proofs.Slots.{slots_apart, slot_next, apart, within, kept_below, kept_above, written, map_counting_same, map_counting_shift}

pub length_frames : (ps : List Place) (bs : List ℕ) (w k head used : ℕ) → length (frames_in ps bs w k head used) ≡ used
length_frames ps bs w k head used = length-map-range_with_len (λ i. frame_in ps bs w (slot k head i)) 0 used

-- another place's frame is as it was
kept : (ps : List Place) (bs : List ℕ) (w k s t : ℕ) (x : Place) (p : List ℕ) → s ≢ t → t < k → k * w ≤ length bs → length p ≤ w → (place_at ps s).size ≤ w → frame_in (set ps t x) (paste bs (t * w) p (length p)) w s ≡ frame_in ps bs w s
kept ps bs w k s t x p ne l room fits z =
    let g = get_or-set_other ps t s x blank ne in
    let in_bytes : t * w + w ≤ length bs = omega (arith, apart t k w l) in
    let b : take (place_at ps s).size (drop (s * w) (paste bs (t * w) p (length p))) ≡ take (place_at ps s).size (drop (s * w) bs) =
    ⊎_elim
    (λ (c : s < t). kept_below bs p (t * w) (s * w) (place_at ps s).size (omega (arith, apart s t w c)) (omega arith))
    (λ (c : t ≤ s). kept_above bs p (t * w) (s * w) (place_at ps s).size (omega (arith, apart t s w (omega arith))) (omega arith))
    (cases_lt s t) in
    rw (g, b)

-- the frame just put
new_frame : (ps : List Place) (bs : List ℕ) (w k t : ℕ) (x : Place) (p : List ℕ) → k ≡ length ps → t < k → k * w ≤ length bs → length p ≤ w → x.size ≡ length p → frame_in (set ps t x) (paste bs (t * w) p (length p)) w t ≡ frame x.kind x.handle x.header p
new_frame ps bs w k t x p kl tk room fits e =
    let g = get_or-set_same ps t x blank (omega arith) in
    let o = written bs p (t * w) (omega (arith, apart t k w tk)) in
    rw (g, e, o)

-- a put adds its frame at the end
put_at : (ps : List Place) (bs : List ℕ) (w k head used : ℕ) (x : Place) (p : List ℕ) → k ≡ length ps → head < k → used < k → k * w ≤ length bs → Sized ps k w head used → length p ≤ w → x.size ≡ length p → frames_in (set ps (slot k head used) x) (paste bs (slot k head used * w) p (length p)) w k head (used + 1) ≡ frames_in ps bs w k head used ++ (frame x.kind x.handle x.header p ∷ [])
put_at ps bs w k head used x p kl hk uk room z fits e =
    let t = slot k head used in
    let bs' = paste bs (t * w) p (length p) in
    let tk = mod-lt (head + used) {m = k} (omega arith) in
    map-range_with_len_more (λ i. frame_in (set ps t x) bs' w (slot k head i)) 0 used used (omega arith)
    ∙ ap (λ l. l ++ (frame_in (set ps t x) bs' w t ∷ []))
    (map_counting_same _ (λ i. frame_in ps bs w (slot k head i)) 0 used
    (λ i a b. kept ps bs w k (slot k head i) t x p (slots_apart k head i used hk (omega arith) uk) tk room fits (z i (omega arith))))
    ∙ ap (λ f. frames_in ps bs w k head used ++ (f ∷ [])) (new_frame ps bs w k t x p kl tk room fits e)

pub put_frames : (ps : List Place) (bs bs' : List ℕ) (w k head used s : ℕ) (x : Place) (p : List ℕ) → k ≡ length ps → head < k → used < k → k * w ≤ length bs → Sized ps k w head used → length p ≤ w → x.size ≡ length p → s ≡ slot k head used → bs' ≡ paste bs (s * w) p (length p) → frames_in (set ps s x) bs' w k head (used + 1) ≡ frames_in ps bs w k head used ++ (frame x.kind x.handle x.header p ∷ [])
put_frames ps bs bs' w k head used s x p kl hk uk room z fits e se be = rw (be, se) (put_at ps bs w k head used x p kl hk uk room z fits e)

-- a take keeps all sizes within bounds
pub rest_sized : (ps : List Place) (k w head used : ℕ) → Sized ps k w head used → Sized ps k w (slot k head 1) (used - 1)
rest_sized ps k w head used z i l = rw (slot_next k head i) at (z (i + 1) (omega arith))

first_slot : (k head : ℕ) → head < k → slot k head 0 ≡ head
first_slot k head l = let e : head + 0 ≡ head = omega arith in rw e (mod-eq_of_lt l)

oldest_first : (ps : List Place) (bs : List ℕ) (w k head used : ℕ) → head < k → 0 < used → frames_in ps bs w k head used ≡ frame_in ps bs w head ∷ frames_in ps bs w k (slot k head 1) (used - 1)
oldest_first ps bs w k head used l p =
    let f : ℕ → Frame = λ i. frame_in ps bs w (slot k head i) in
    let u : used ≡ suc (used - 1) = omega arith in
    ap (frames_in ps bs w k head) u
    ∙ ap (λ l. f 0 ∷ l)
    (map_counting_shift f 0 (used - 1)
    ∙ map_counting_same _ (λ i. frame_in ps bs w (slot k (slot k head 1) i)) 0 (used - 1) (λ i a b. ap (frame_in ps bs w) (slot_next k head i)))
    ∙ ap (λ s. frame_in ps bs w s ∷ frames_in ps bs w k (slot k head 1) (used - 1)) (first_slot k head l)

-- the oldest frame, at the place x: what waits behind it, and where its bytes lie
pub record Oldest (ps : List Place) (bs : List ℕ) (w k head used : ℕ) (x : Place) : Type 0 where
  pub first : frames_in ps bs w k head used ≡ frame_of x (drop (head * w) bs) ∷ frames_in ps bs w k (slot k head 1) (used - 1)
  pub inside : head * w + x.size ≤ length bs
  pub len : length (frame_of x (drop (head * w) bs)).payload ≡ x.size

pub oldest : (ps : List Place) (bs : List ℕ) (w k head used : ℕ) (x : Place) → k ≡ length ps → head ≤ k - 1 → used ≤ k → (used ≡ 0 → ⊥) → k * w ≤ length bs → Sized ps k w head used → x ≡ get_or ps head x → Oldest ps bs w k head used x
oldest ps bs w k head used x kl hk uk some room z read =
    let l : head < k = omega arith in
    let p : 0 < used = omega arith in
    let e : x ≡ place_at ps head = get_or_read_under ps head k x blank read l kl in
    let fits : x.size ≤ w = omega (arith, ap (λ y. y.size) e, ap (λ s. (place_at ps s).size) (first_slot k head l), z 0 p) in
    let i = within head k w x.size (length bs) l room fits in
    record {
      first = oldest_first ps bs w k head used l p ∙ ap (λ y. frame_of y (drop (head * w) bs) ∷ frames_in ps bs w k (slot k head 1) (used - 1)) (sym e);
      inside = i;
      len = omega (arith, length-take x.size (drop (head * w) bs), length-drop (head * w) bs, i);
    }

-- what the reader says, leaves and writes where the oldest frame fits its memory, and where it does not
pub record Read (m : Model) (f : Frame) (behind : List Frame) (out : List ℕ) : Type 0 where
  pub answer : taken m.waiting (length out) ≡ Ok (Some (place_of f))
  pub after : left m (length out) ≡ freed m behind
  pub read : read_into m.waiting out ≡ f.payload ++ drop (length f.payload) out

pub took : (m : Model) (f : Frame) (behind : List Frame) (out : List ℕ) → m.waiting ≡ f ∷ behind → length f.payload ≤ length out → Read m f behind out
took m f behind out e h =
    let t = le-ltb (length out) (length f.payload) h in
    record { answer = rw (e, t); after = rw (e, t); read = rw (e, t) }

-- the queue that is left is that sink
pub freed_is : (m : Model) (fs behind : List Frame) (vacancy : ℕ) → fs ≡ behind → vacancy ≡ m.vacancy + 1 → record { waiting = fs; vacancy = vacancy; widest = m.widest; stopped = m.stopped } ≡ freed m behind
freed_is m fs behind vacancy e v = cc

pub record Kept (m : Model) (out : List ℕ) : Type 0 where
  pub answer : taken m.waiting (length out) ≡ Err TooShort
  pub after : left m (length out) ≡ m
  pub read : read_into m.waiting out ≡ out

pub short : (m : Model) (f : Frame) (behind : List Frame) (out : List ℕ) → m.waiting ≡ f ∷ behind → length out < length f.payload → Kept m out
short m f behind out e h =
    let t = lt-ltb (length out) (length f.payload) h in
    record { answer = rw (e, t); after = rw (e, t); read = rw (e, t) }

-- The record at the front of bytes, and the frames that they read back to.
use Rattle.std.proofs.Common.{◌≡◌, ℕ, zero, suc, ◌+◌, ◌-◌, ◌<◌, ◌≤◌, min, List, [], ◌∷◌, length, take, drop, Ok, Err, Result, refl, sym, ap, ◌∙◌, arith}
use Rattle.std.proofs.lemmas.List.{length-drop, drop-drop, drop_min, take_rest, get_or-drop, nil_from_length}
use Rattle.codec.specs.declared.error.ReadError.{ReadError}
use Rattle.sink.specs.Frames.{Frame}
use Rattle.spool.specs.Exact.{Exact}
use Rattle.spool.specs.Reading.{read_of, first_then, frames_within, frames_in}
use Rattle.spool.proofs.Parts.{Bytes}
use Rattle.spool.proofs.Exact.{exact}
use Rattle.spool.proofs.Laying.{sizes, none_in}

-- more steps than bytes change nothing
any_steps : (most more : ℕ) (bs : List ℕ) → length bs ≤ most → length bs ≤ more → frames_within most bs ≡ frames_within more bs
any_steps zero more bs l m = let z : bs ≡ [] = nil_from_length bs (omega arith) in sym (ap (frames_within more) z ∙ none_in more)
any_steps (suc most) zero bs l m = let z : bs ≡ [] = nil_from_length bs (omega arith) in ap (frames_within (suc most)) z ∙ none_in (suc most)
any_steps (suc most) (suc more) bs l m = by (λ n h i. any_steps most more (drop n bs) h i) (read_of bs) refl
  where
    by : ((n : ℕ) → length (drop n bs) ≤ most → length (drop n bs) ≤ more → frames_within most (drop n bs) ≡ frames_within more (drop n bs)) → (q : Result (Frame × ℕ) ReadError) → read_of bs ≡ q → first_then q (λ n. frames_within most (drop n bs)) ≡ first_then q (λ n. frames_within more (drop n bs))
    by next (Ok (g, n)) q = let s = sizes bs g n q in ap (λ fs. g ∷ fs) (next n (omega (arith, length-drop n bs, s.front)) (omega (arith, length-drop n bs, s.front)))
    by next (Err e) q = refl

first_frame : (bs : List ℕ) (f : Frame) (n : ℕ) → read_of bs ≡ Ok (f, n) → frames_in bs ≡ f ∷ frames_in (drop n bs)
first_frame bs f n e =
    let s = sizes bs f n e in
    let l : length bs ≡ suc (length bs - 1) = omega (arith, s.front, s.whole) in
    ap (λ k. frames_within k bs) l ∙ rw e (ap (λ fs. f ∷ fs) (any_steps (length bs - 1) (length (drop n bs)) (drop n bs) (omega (arith, length-drop n bs, s.front)) (omega arith)))

-- the same of the bytes from a place on, which the code holds below their length
module _ (at low : ℕ) (bs : List ℕ) (is : low ≡ min at (length bs)) where
  from_there : drop low bs ≡ drop at bs
  from_there = ap (λ k. drop k bs) is ∙ drop_min at bs

  -- the bytes from there on, as a range of them
  abbrev rest : List ℕ
  rest = take (length bs - low) (drop low bs)

  pub next_frame : (f : Frame) (n : ℕ) → Ok (f, n) ≡ read_of rest → frames_in (drop at bs) ≡ f ∷ frames_in (drop (low + n) bs)
  next_frame f n e =
      ap frames_in (sym from_there)
      ∙ first_frame (drop low bs) f n (sym (e ∙ ap read_of (take_rest bs low)))
      ∙ ap (λ xs. f ∷ frames_in xs) (drop-drop n low bs)

  pub next_place : (f : Frame) (n : ℕ) → Ok (f, n) ≡ read_of rest → (at < low + n) × (low + n ≤ length bs)
  next_place f n e =
      let s = sizes (drop low bs) f n (sym (e ∙ ap read_of (take_rest bs low))) in
      let l = length-drop low bs in
      (omega (arith, s.front, s.whole), omega (arith, s.front, s.whole))

  pub exact_there : Bytes bs → Exact (drop at bs) (read_of (drop at bs))
  exact_there b = exact (drop at bs) (λ i. omega (arith, get_or-drop at bs i 0, b (at + i)))

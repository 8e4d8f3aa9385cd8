-- A tag, and the zeros past its bytes.
use Rattle.std.proofs.Common.{◌≡◌, ℕ, ◌+◌, ◌-◌, ◌≤◌, ◌==◌, ◌&&◌, true, min, List, ◌++◌, length, take, drop, replicate, Decides, bytes_eq, sym, refl, ap, ◌∙◌, ap₂, arith}
use Rattle.std.proofs.Props.{props}
use Rattle.std.proofs.lemmas.Bool.{and_parts, and_from}
use Rattle.std.proofs.lemmas.Bool.Decides.{Decides-eqb}
use Rattle.std.proofs.lemmas.Slice.Eq.{bytes_eq-Decides}
use Rattle.std.proofs.lemmas.List.{take-append-drop, take_at, take_all, drop_at, length-append, length-take, length-replicate, replicate-append-replicate, length-take-le}
use mathlib.Core.HLevel.{is_prop→PathP}
use Rattle.amqp.specs.declared.tag.DeliveryTag.{DeliveryTag}
use Rattle.amqp.specs.Tags.{tag_bytes, padded as padded_to, tag_from, tag_of, SameBytesSameTag}

abbrev Within : ℕ → List ℕ → Type 0
Within n bs = (n ≤ 32) × (length bs ≡ 32)

abbrev Clear : ℕ → List ℕ → Type 0
Clear n bs = drop n bs ≡ replicate (32 - n) 0

-- a tag is its length and its bytes
pub tag_ext : (x y : DeliveryTag) → x.len ≡ y.len → x.bytes ≡ y.bytes → x ≡ y
tag_ext x y l b =
    λ i. record {
      len = l i;
      bytes = b i;
      within = is_prop→PathP (λ j. Within (l j) (b j)) (λ j. Prim.hlevel props) x.within y.within i;
      clear = is_prop→PathP (λ j. Clear (l j) (b j)) (λ j. Prim.hlevel props) x.clear y.clear i;
    }

-- tags are compared by their bytes and lengths
equal_itself : (x : DeliveryTag) → (bytes_eq x.bytes x.bytes && x.len == x.len) ≡ true
equal_itself x = and_from _ _ ((bytes_eq-Decides x.bytes x.bytes).1 refl) ((Decides-eqb x.len x.len).1 refl)

equal_means : (x y : DeliveryTag) → (bytes_eq x.bytes y.bytes && x.len == y.len) ≡ true → x ≡ y
equal_means x y h =
    let p = and_parts (bytes_eq x.bytes y.bytes) _ h in
    tag_ext x y ((Decides-eqb x.len y.len).0 p.1) ((bytes_eq-Decides x.bytes y.bytes).0 p.0)

-- which decides whether they are one
pub equal_decides : (x y : DeliveryTag) → Decides (bytes_eq x.bytes y.bytes && x.len == y.len) (x ≡ y)
equal_decides x y = (equal_means x y, λ e. ap (λ t. bytes_eq x.bytes t.bytes && x.len == t.len) (sym e) ∙ equal_itself x)

-- a length that is at most 32 counts the bytes
own : (t : DeliveryTag) → tag_bytes t ≡ take t.len t.bytes
own t = ap (λ n. take n t.bytes) (omega (arith, t.within.0))

padded : (t : DeliveryTag) → t.bytes ≡ tag_bytes t ++ replicate (32 - t.len) 0
padded t = sym (take-append-drop t.len t.bytes) ∙ ap₂ (λ s r. s ++ r) (sym (own t)) t.clear

length_tag : (t : DeliveryTag) → length (tag_bytes t) ≡ t.len
length_tag t = ap length (own t) ∙ length-take-le t.len t.bytes (omega (arith, t.within.0, t.within.1))

pub same_tags : (x y : DeliveryTag) → tag_bytes x ≡ tag_bytes y → x ≡ y
same_tags x y e =
    let n : x.len ≡ y.len = sym (length_tag x) ∙ ap length e ∙ length_tag y in
    tag_ext x y n (padded x ∙ ap₂ (λ s k. s ++ replicate (32 - k) 0) e n ∙ sym (padded y))

fewer : (z n m : ℕ) → drop n (replicate (n + m) z) ≡ replicate m z
fewer z n m = ap (drop n) (sym (replicate-append-replicate n m z)) ∙ drop_at (replicate n z) (replicate m z) n (length-replicate n z)

zeros : (z n : ℕ) → n ≤ 32 → drop n (replicate 32 z) ≡ replicate (32 - n) z
zeros z n h = let e : 32 ≡ n + (32 - n) = omega arith in ap (λ k. drop n (replicate k z)) e ∙ fewer z n (32 - n)

-- bytes that were copied over zeros
pub within_over_zeros : (s p : List ℕ) → length s ≤ 32 → p ≡ s → (length s ≤ 32) × (length (p ++ drop (length s) (replicate 32 0)) ≡ 32)
within_over_zeros s p h e =
    let z = zeros 0 (length s) h in
    (h, length-append p (drop (length s) (replicate 32 0)) ∙ omega (arith, ap length e, ap length z, length-replicate {A = ℕ} (32 - length s) 0))

pub clear_over_zeros : (s p : List ℕ) → length s ≤ 32 → p ≡ s → drop (length s) (p ++ drop (length s) (replicate 32 0)) ≡ replicate (32 - length s) 0
clear_over_zeros s p h e = drop_at p _ (length s) (ap length e) ∙ zeros 0 (length s) h

-- and the tag that they make
pub copied : (t : DeliveryTag) (s : List ℕ) → length s ≤ 32 → t.len ≡ length s → t.bytes ≡ s ++ drop (length s) (replicate 32 0) → t ≡ tag_from s
unfolding tag_from
copied t s h n e =
    let w = take_all 32 s h in
    tag_ext t _ (n ∙ ap length (sym w)) (e ∙ ap (λ r. s ++ r) (zeros 0 (length s) h) ∙ ap padded_to (sym w))

pub bytes_from : (s : List ℕ) → length s ≤ 32 → tag_bytes (tag_from s) ≡ s
unfolding tag_from
bytes_from s h =
    let e : take 32 s ≡ s = take_all 32 s h in
    let n : min (length (take 32 s)) 32 ≡ length (take 32 s) = omega (arith, length-take 32 s) in
    ap (λ k. take k (padded_to (take 32 s))) n ∙ take_at (take 32 s) (replicate (32 - length (take 32 s)) 0) (length (take 32 s)) refl ∙ e

-- a tag is that of its bytes
pub tag_is : (t : DeliveryTag) → length (tag_bytes t) ≤ 32 → tag_from (tag_bytes t) ≡ t
tag_is t h = same_tags (tag_from (tag_bytes t)) t (bytes_from (tag_bytes t) h)

-- and of bytes that are its own
pub tag_of_bytes : (t : DeliveryTag) (s : List ℕ) → tag_bytes t ≡ s → t ≡ tag_from s
tag_of_bytes t s e = sym (tag_is t (omega (arith, length-take (min t.len 32) t.bytes))) ∙ ap tag_from e

pub stands : SameBytesSameTag
unfolding tag_of
stands = record { one = same_tags; of_bytes = bytes_from; of_count = λ n. refl }

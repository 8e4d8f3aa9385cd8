-- Arithmetic of shares, how a cut goes on, and what the frames of a message come to.
use Rattle.std.proofs.Common.{◌≡◌, ℕ, zero, suc, ◌+◌, ◌-◌, ◌*◌, ◌/◌, ◌<◌, ◌≤◌, min, ltb, List, [], ◌∷◌, ◌++◌, map, length, get_or, take, drop, None, sym, refl, ap, subst, ◌∙◌, ⊎_elim, mul-le-mul_right, suc-mul, add-mul, one-mul, zero-mul, div-mul-le_self, arith, take-add}
use native.Mathlib.Nat.{div-eq_of_lt, lt-div-mul-add}
use Rattle.std.proofs.lemmas.Bool.{cases_lt}
use Rattle.std.proofs.lemmas.List.{drop-drop, take_all, take_at, drop_at, take_min, drop_min, length-take, length-drop}
use Rattle.std.proofs.lemmas.List.Elements.{All-map}
use Rattle.std.proofs.lemmas.List.FromFn.{map-range_with_len_more}
use Rattle.std.specs.Slice.Iter.{chunk_count}
use Rattle.std.specs.List.{range_with_len, flat_map}
use Rattle.amqp.specs.declared.header.Header.{Header}
use Rattle.amqp.specs.declared.header.Transfer.{Transfer as Transferring}
use Rattle.amqp.specs.Headers.{Widest, measured}
use Rattle.sink.specs.Frames.{Frame, Model, Grown, After, fault_at}
use Rattle.sink.specs.Cuts.{count_of, part, frame_at, frames_of, payload_of, split_fault, Fits, Carries}
use Rattle.sink.proofs.Growing.{grown_none, grown_more, grown_from, next_taken}

-- bounds of a quotient and of a product
quotient_positive : (n share : ℕ) → 0 < share → share ≤ n → 0 < n / share
quotient_positive n share p l =
    ⊎_elim
    (λ (z : n / share < 1). let e : n / share ≡ 0 = omega arith in omega (arith, lt-div-mul-add {a = n} {b = share} p, ap (λ q. q * share) e, zero-mul share))
    (λ h. h)
    (cases_lt (n / share) 1)

sum_within_product : (a b : ℕ) → 0 < a → 0 < b → a + b ≤ a * b + 1
sum_within_product zero b p q = omega arith
sum_within_product (suc a) zero p q = omega arith
sum_within_product (suc a) (suc b) p q = omega arith

-- a message makes one part more than what is left past its first part
pub count_more : (len share : ℕ) → 0 < share → chunk_count (len - min share len) share + 1 ≡ count_of len share
count_more len share p =
    let q = (len - 1) / share in
    ⊎_elim
    (λ (l : share < len).
    let f : ((len - min share len) + share - 1) / share ≡ q = ap (λ n. n / share) (omega arith) in
    let a = sum_within_product q share (quotient_positive (len - 1) share p (omega arith)) p in
    omega (arith, f, a, div-mul-le_self (len - 1) share))
    (λ (l : len ≤ share). let d : q ≡ 0 = div-eq_of_lt (omega arith) in omega (arith, d))
    (cases_lt share len)

-- where another part follows, this one is whole
pub whole : (len share i : ℕ) → i + 1 < count_of len share → i * share + share ≤ len
whole len share i h =
    let a : (i + 1) * share ≤ ((len - 1) / share) * share = mul-le-mul_right share (omega arith) in
    omega (arith, div-mul-le_self (len - 1) share, add-mul i 1 share, one-mul share)

-- a part after the first begins within the message
within : (len share i : ℕ) → 0 < share → 0 < i → i < count_of len share → i * share < len
within len share i p f h =
    let a : i * share ≤ ((len - 1) / share) * share = mul-le-mul_right share (omega arith) in
    let b : 1 * share ≤ i * share = mul-le-mul_right share f in
    omega (arith, a, b, one-mul share, div-mul-le_self (len - 1) share)

-- the last part holds the rest
rest : (len share i : ℕ) → 0 < share → count_of len share ≤ i + 1 → len ≤ i * share + share
rest len share i p h =
    let a : ((len - 1) / share) * share ≤ i * share = mul-le-mul_right share (omega arith) in
    omega (arith, lt-div-mul-add {a = len - 1} {b = share} p)

-- a part is no longer than the share and the message
pub part_fits : (msg : List ℕ) (share i : ℕ) → length (part msg share i) ≤ min share (length msg)
part_fits msg share i = omega (arith, length-take share (drop (i * share) msg), length-drop (i * share) msg)

-- from a to b the first i frames of a message were put, and `left` is still to be cut
pub record Begun (a b : Model) (h : Transferring) (handle share : ℕ) (msg : List ℕ) (i : ℕ) (left : List ℕ) : Type 0 where
  pub room : split_fault a msg share ≡ None
  pub grown : Grown a b (map (frame_at h handle share (count_of (length msg) share) msg) (range_with_len 0 i)) i
  pub rest : left ≡ drop (i * share) msg
  pub bound : i ≤ count_of (length msg) share

pub begun_none : (a : Model) (h : Transferring) (handle share : ℕ) (msg : List ℕ) → split_fault a msg share ≡ None → Begun a a h handle share msg 0 msg
begun_none a h handle share msg e =
    let z : drop (0 * share) msg ≡ msg = rw zero-mul in
    record { room = e; grown = grown_none a; rest = sym z; bound = omega arith }

-- where bytes are left, a part is still to come, and else the whole message was put
pub part_left : {a b : Model} {h : Transferring} {handle share : ℕ} {msg : List ℕ} {i : ℕ} {left : List ℕ} → 0 < share → Begun a b h handle share msg i left → 0 < length left → i < count_of (length msg) share
part_left {share = share} {msg = msg} {i = i} {left = left} p g l =
    ⊎_elim
    (λ h. h)
    (λ (h : count_of (length msg) share ≤ i).
    let r = rest (length msg) share (i - 1) p (omega arith) in
    let e : i * share ≡ (i - 1) * share + share = ap (λ k. k * share) (omega arith) ∙ add-mul (i - 1) 1 share ∙ ap (λ k. (i - 1) * share + k) (one-mul share) in
    omega (arith, r, e, ap length g.rest, length-drop (i * share) msg))
    (cases_lt i (count_of (length msg) share))

pub all_put : {a b : Model} {h : Transferring} {handle share : ℕ} {msg : List ℕ} {i : ℕ} {left : List ℕ} → 0 < share → Begun a b h handle share msg i left → 0 < i → length left ≡ 0 → Grown a b (frames_of h handle share msg) (count_of (length msg) share)
all_put {a = a} {b = b} {h = h} {handle = handle} {share = share} {msg = msg} {i = i} p g f l =
    let n = count_of (length msg) share in
    let e : i ≡ n =
    ⊎_elim
    (λ (x : i < n). omega (arith, within (length msg) share i p f x, ap length g.rest, length-drop (i * share) msg))
    (λ (x : n ≤ i). omega (arith, g.bound))
    (cases_lt i n) in
    subst (λ k. Grown a b (map (frame_at h handle share n msg) (range_with_len 0 k)) k) e g.grown

-- what `chunks` cuts off is the next part
pub part_is : {a b : Model} {h : Transferring} {handle share : ℕ} {msg : List ℕ} {i : ℕ} {left : List ℕ} (p more : List ℕ) → Begun a b h handle share msg i left → left ≡ p ++ more → length p ≡ min share (length left) → p ≡ part msg share i
part_is {share = share} {left = left} p more g e l =
    sym (take_at p more (length p) refl) ∙ ap (take (length p)) (sym e) ∙ ap (λ n. take n left) l ∙ take_min share left ∙ ap (take share) g.rest

-- and the sink has room for it
pub room_next : {a b : Model} {h : Transferring} {handle share : ℕ} {msg : List ℕ} {i : ℕ} {left : List ℕ} (p : List ℕ) → Begun a b h handle share msg i left → i < count_of (length msg) share → p ≡ part msg share i → fault_at b (length p) 1 ≡ None
room_next {share = share} {msg = msg} {i = i} p g l e =
    next_taken _ (min share (length msg)) (count_of (length msg) share) i (length p) g.room g.grown l (omega (arith, part_fits msg share i, ap length e))

-- once it is put
pub begun_more : {a b c : Model} {h : Transferring} {handle share : ℕ} {msg : List ℕ} {i : ℕ} {left : List ℕ} (p more : List ℕ) (f : Frame) → Begun a b h handle share msg i left → i < count_of (length msg) share → left ≡ p ++ more → length p ≡ min share (length left) → f ≡ frame_at h handle share (count_of (length msg) share) msg i → After (fault_at b (length p) 1) b c (f ∷ []) 1 → Begun a c h handle share msg (i + 1) more
begun_more {a = a} {c = c} {h = h} {handle = handle} {share = share} {msg = msg} {i = i} {left = left} p more f g l e w x t =
    let part_of = frame_at h handle share (count_of (length msg) share) msg in
    let n = room_next p g l (part_is p more g e w) in
    let one = grown_from _ n t in
    let fs : map part_of (range_with_len 0 (i + 1)) ≡ map part_of (range_with_len 0 i) ++ (f ∷ []) = map-range_with_len_more part_of 0 i i (omega arith) ∙ ap (λ y. map part_of (range_with_len 0 i) ++ (y ∷ [])) (sym x) in
    let m : (i + 1) * share ≡ i * share + share = add-mul i 1 share ∙ ap (λ k. i * share + k) (one-mul share) in
    record {
      room = g.room;
      grown = subst (λ ys. Grown a c ys (i + 1)) (sym fs) (grown_more _ _ i 1 g.grown one);
      rest = sym (drop_at p more (length p) refl) ∙ ap (drop (length p)) (sym e) ∙ ap (λ n. drop n left) w ∙ drop_min share left ∙ ap (drop share) g.rest ∙ drop-drop share (i * share) msg ∙ ap (λ k. drop k msg) (sym m);
      bound = omega arith;
    }

joined_parts : (h : Transferring) (handle share count : ℕ) (msg : List ℕ) (a n : ℕ) → flat_map payload_of (map (frame_at h handle share count msg) (range_with_len a n)) ≡ take (n * share) (drop (a * share) msg)
joined_parts h handle share count msg a zero = rw zero-mul
joined_parts h handle share count msg a (suc n) =
    let r = joined_parts h handle share count msg (a + 1) n in
    let e : (a + 1) * share ≡ a * share + share = omega (arith, add-mul a 1 share, one-mul share) in
    let d = drop-drop share (a * share) msg in
    let t = take-add share (n * share) (drop (a * share) msg) in
    let m : suc n * share ≡ share + n * share = omega (arith, suc-mul n share) in
    ap (λ l. part msg share a ++ l) (r ∙ ap (λ k. take (n * share) (drop k msg)) e ∙ sym (ap (take (n * share)) d)) ∙ sym t ∙ ap (λ k. take k (drop (a * share) msg)) (sym m)

one_fits : (bytes : Header → List ℕ) (h : Transferring) → Widest bytes h → (handle share size count : ℕ) (msg : List ℕ) → measured bytes h + min share (length msg) + 4 ≤ size → (a : ℕ) → Fits bytes size (frame_at h handle share count msg a)
one_fits bytes h w handle share size count msg s zero id = omega (arith, w.first id (ltb 1 count), part_fits msg share zero)
one_fits bytes h w handle share size count msg s (suc i) id = omega (arith, w.later id (ltb (suc i + 1) count), part_fits msg share (suc i))

-- the frames of a message carry it, and each fits
pub carried : (bytes : Header → List ℕ) (h : Transferring) → Widest bytes h → (handle share size : ℕ) (msg : List ℕ) → 0 < share → measured bytes h + min share (length msg) + 4 ≤ size → Carries bytes size msg (frames_of h handle share msg)
carried bytes h w handle share size msg p s =
    let n = count_of (length msg) share in
    let r = rest (length msg) share (n - 1) p (omega arith) in
    let e : n ≡ (n - 1) + 1 = omega arith in
    let m : n * share ≡ (n - 1) * share + share = ap (λ k. k * share) e ∙ add-mul (n - 1) 1 share ∙ ap (λ k. (n - 1) * share + k) (one-mul share) in
    let d : drop (0 * share) msg ≡ msg = rw zero-mul in
    record {
      whole = joined_parts h handle share n msg 0 n ∙ ap (take (n * share)) d ∙ take_all (n * share) msg (omega arith);
      fits = All-map (Fits bytes size) (frame_at h handle share n msg) (range_with_len 0 n) (λ k d l. one_fits bytes h w handle share size n msg s (get_or (range_with_len 0 n) k d));
    }

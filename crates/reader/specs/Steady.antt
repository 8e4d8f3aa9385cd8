-- What is read of bytes stays so whatever follows them, unless they end too soon.
use Rattle.std.specs.Prelude.{◌≡◌, ℕ, zero, suc, ◌+◌, ◌^◌, ◌<◌, ◌≤◌, Bool, true, false, cond, List, ◌++◌, length, take, drop, Ok, Err, Result, nat_lt, slice_index, refl}
use Rattle.std.proofs.Common.{arith}
use Rattle.std.proofs.lemmas.List.{get_or_append_left, take-append-le, drop-append-le, length-append, length-drop, length-take-le}
use Rattle.std.proofs.lemmas.Bool.{ltb-true, ltb-false, lt-ltb, le-ltb}
use Rattle.reader.specs.Fault.{Bytes}
use Rattle.reader.specs.Places.{then, number}

-- r is read of l bytes, and s of more that begin with them: pos is the place past what was read
pub data Kept {B : Type 0} (pos : B → ℕ) (l : ℕ) (r s : Result B ℕ) : Type 0 where
  found : (x : B) → r ≡ Ok x → s ≡ Ok x → pos x ≤ l → Kept pos l r s
  wrong : (q : ℕ) → r ≡ Err q → s ≡ Err q → q < l → Kept pos l r s
  short : r ≡ Err l → ((x : B) → s ≡ Ok x → l < pos x) → Kept pos l r s

-- from at on: what is read is of the kind F, and takes the reader to lo at least
pub record Steady {B : Type 0} (F : B → Type 0) (pos : B → ℕ) (lo at l : ℕ) (r s : Result B ℕ) : Type 0 where
  pub onward : (x : B) → s ≡ Ok x → (lo ≤ pos x) × F x
  pub kept : at ≤ l → Kept pos l r s

pub no_ok : {A B : Type 0} {e : ℕ} {x : A} → ◌≡◌ {A = Result A ℕ} (Err e) (Ok x) → B
no_ok p = let z : ◌≡◌ {A = ℕ} 0 1 = cc in absurd (omega arith)

pub same_ok : {A : Type 0} {x y : A} → ◌≡◌ {A = Result A ℕ} (Ok x) (Ok y) → x ≡ y
same_ok e = cc

module _ {A B : Type 0} {F : A → Type 0} {G : B → Type 0} {pos : A → ℕ} {qos : B → ℕ} {lo l : ℕ} {f g : A → Result B ℕ} (next : (x : A) → lo ≤ pos x → F x → Steady G qos (pos x) (pos x) l (f x) (g x)) where
  bind_onward : (s : Result A ℕ) → ((x : A) → s ≡ Ok x → (lo ≤ pos x) × F x) → (y : B) → then s g ≡ Ok y → (lo ≤ qos y) × G y
  bind_onward (Ok x) h y e = let a = h x refl in let b = (next x a.0 a.1).onward y e in (omega arith, b.1)
  bind_onward (Err q) h y e = no_ok e

  bind_short : (s : Result A ℕ) → ((x : A) → s ≡ Ok x → (lo ≤ pos x) × F x) → ((x : A) → s ≡ Ok x → l < pos x) → (y : B) → then s g ≡ Ok y → l < qos y
  bind_short (Ok x) h n y e = let a = h x refl in let b = (next x a.0 a.1).onward y e in omega (arith, n x refl)
  bind_short (Err q) h n y e = no_ok e

  bind_kept : (r s : Result A ℕ) → ((x : A) → s ≡ Ok x → (lo ≤ pos x) × F x) → Kept pos l r s → Kept qos l (then r f) (then s g)
  bind_kept r s h (found x p q w) = let a = h x q in rw (p, q) ((next x a.0 a.1).kept w)
  bind_kept r s h (wrong q p e w) = wrong q (rw p) (rw e) w
  bind_kept r s h (short p n) = short (rw p) (bind_short s h n)

-- one reading after the other
pub bind : {A B : Type 0} {F : A → Type 0} {G : B → Type 0} {pos : A → ℕ} {qos : B → ℕ} {lo at l : ℕ} {f g : A → Result B ℕ} {r s : Result A ℕ} → Steady F pos lo at l r s
    → ((x : A) → lo ≤ pos x → F x → Steady G qos (pos x) (pos x) l (f x) (g x)) → Steady G qos lo at l (then r f) (then s g)
bind {r = r} {s = s} t next =
    record { onward = bind_onward next s t.onward; kept = λ w. bind_kept next r s t.onward (t.kept w) }

module _ {B : Type 0} {F : B → Type 0} {pos : B → ℕ} {lo at l : ℕ} where
  -- something was read, up to at
  pub done : (x : B) → lo ≤ pos x → pos x ≤ at → F x → Steady F pos lo at l (Ok x) (Ok x)
  done x a b f = let o : (lo ≤ pos x) × F x = (a, f) in record { onward = λ y e. rw (same_ok e) at o; kept = λ w. found x refl refl (omega arith) }

  -- a fault before at
  pub bad : (q : ℕ) → q < at → Steady F pos lo at l (Err q) (Err q)
  bad q a = record { onward = λ y e. no_ok e; kept = λ w. wrong q refl refl (omega arith) }

  pub either : (b : Bool) {r s u v : Result B ℕ} → Steady F pos lo at l r s → Steady F pos lo at l u v → Steady F pos lo at l (cond b r u) (cond b s v)
  either true t w = t
  either false t w = w

  -- the same, where each side may use what the test told
  pub cases : (b : Bool) {r s u v : Result B ℕ} → (b ≡ true → Steady F pos lo at l r s) → (b ≡ false → Steady F pos lo at l u v) → Steady F pos lo at l (cond b r u) (cond b s v)
  cases true t w = t refl
  cases false t w = w refl

  -- what was read says how far it goes
  pub lifted : {G : B → Type 0} {from : ℕ} {r s : Result B ℕ} → ((x : B) → from ≤ pos x → G x → (lo ≤ pos x) × F x) → Steady G pos from at l r s → Steady F pos lo at l r s
  lifted a t = record { onward = λ x e. (let o = t.onward x e in a x o.0 o.1); kept = t.kept }

  -- less is asked of it
  pub eased : {lo' at' : ℕ} {r s : Result B ℕ} → lo ≤ lo' → at' ≤ at → Steady F pos lo' at' l r s → Steady F pos lo at l r s
  eased a b t = record { onward = λ x e. (let o = t.onward x e in (omega (arith, o.0), o.1)); kept = λ w. t.kept (omega arith) }

-- bytes that others begin with
module _ (src more : List ℕ) where
  pub same_byte : (at : ℕ) → at < length src → slice_index (src ++ more) at ≡ slice_index src at
  same_byte at w = get_or_append_left src more 0 at w

  same_number : (width at : ℕ) → at + width ≤ length src → number width (src ++ more) at ≡ number width src at
  same_number zero at w = refl
  same_number (suc n) at w = rw (same_number n at (omega arith), same_byte (at + n) (omega arith))

  same_text : (n at : ℕ) → at + n ≤ length src → take n (drop at (src ++ more)) ≡ take n (drop at src)
  same_text n at w =
      let d = length-drop at src in
      rw (drop-append-le at src more (omega arith), take-append-le n (drop at src) more (omega arith))

  number_fits : Bytes (src ++ more) → (width at : ℕ) → number width (src ++ more) at < 256 ^ width
  number_fits bytes zero at = omega arith
  number_fits bytes (suc n) at = let b = bytes (at + n) in omega (arith, number_fits bytes n at)

  text_fits : (n at : ℕ) → at + n ≤ length (src ++ more) → length (take n (drop at (src ++ more))) ≡ n
  text_fits n at w = let d = length-drop at (src ++ more) in length-take-le n (drop at (src ++ more)) (omega arith)

  longer : length src ≤ length (src ++ more)
  longer = omega (arith, length-append src more)

  module _ {B : Type 0} {F : B → Type 0} {pos : B → ℕ} where
    -- a byte that has to be there
    pub there : (at : ℕ) {r s : Result B ℕ} → Steady F pos (at + 1) (at + 1) (length src) r s
        → Steady F pos (at + 1) at (length src) (cond (nat_lt at (length src)) r (Err at)) (cond (nat_lt at (length (src ++ more))) s (Err at))
    there at {r} {s} t = record { onward = onward (nat_lt at (length (src ++ more))); kept = kept (nat_lt at (length src)) refl }
      where
        onward : (b : Bool) (x : B) → cond b s (Err at) ≡ Ok x → (at + 1 ≤ pos x) × F x
        onward true x e = t.onward x e
        onward false x e = no_ok e

        kept : (b : Bool) → nat_lt at (length src) ≡ b → at ≤ length src → Kept pos (length src) (cond (nat_lt at (length src)) r (Err at)) (cond (nat_lt at (length (src ++ more))) s (Err at))
        kept true e w =
            let i = ltb-true at (length src) e in
            rw (e, lt-ltb at (length (src ++ more)) (omega (arith, longer))) (t.kept (omega arith))
        kept false e w =
            let i = ltb-false at (length src) e in
            let z : at ≡ length src = omega arith in
            short (rw (e, z)) (λ x q. (let o = onward (nat_lt at (length (src ++ more))) x q in omega (arith, o.0)))

    -- so many bytes that have to be there
    pub room : (width at : ℕ) {r s : Result B ℕ} → (at + width ≤ length (src ++ more) → Steady F pos (at + width) (at + width) (length src) r s)
        → Steady F pos (at + width) at (length src) (cond (nat_lt (length src) (at + width)) (Err (length src)) r) (cond (nat_lt (length (src ++ more)) (at + width)) (Err (length (src ++ more))) s)
    room width at {r} {s} t = record { onward = onward (nat_lt (length (src ++ more)) (at + width)) refl; kept = kept (nat_lt (length src) (at + width)) refl }
      where
        onward : (b : Bool) → nat_lt (length (src ++ more)) (at + width) ≡ b → (x : B) → cond b (Err (length (src ++ more))) s ≡ Ok x → (at + width ≤ pos x) × F x
        onward true q x e = no_ok e
        onward false q x e = (t (ltb-false (length (src ++ more)) (at + width) q)).onward x e

        kept : (b : Bool) → nat_lt (length src) (at + width) ≡ b → at ≤ length src
            → Kept pos (length src) (cond (nat_lt (length src) (at + width)) (Err (length src)) r) (cond (nat_lt (length (src ++ more)) (at + width)) (Err (length (src ++ more))) s)
        kept true e w =
            let i = ltb-true (length src) (at + width) e in
            short (rw e) (λ x q. (let o = onward (nat_lt (length (src ++ more)) (at + width)) refl x q in omega (arith, o.0)))
        kept false e w =
            let i = ltb-false (length src) (at + width) e in
            let j : at + width ≤ length (src ++ more) = omega (arith, longer) in
            rw (e, le-ltb (length (src ++ more)) (at + width) j) ((t j).kept i)

    -- what follows from a byte that is there
    pub of_byte : (at : ℕ) {lo to : ℕ} (f g : ℕ → Result B ℕ) → at + 1 ≤ to → ((b : ℕ) → (Bytes (src ++ more) → b < 256) → Steady F pos lo to (length src) (f b) (g b))
        → Steady F pos lo to (length src) (f (slice_index src at)) (g (slice_index (src ++ more) at))
    of_byte at f g a t = record { onward = (t _ (λ bytes. bytes at)).onward; kept = λ w. rw (← same_byte at (omega arith)) ((t _ (λ bytes. bytes at)).kept w) }

    -- from a number
    pub of_number : (width at : ℕ) {lo to : ℕ} (f g : ℕ → Result B ℕ) → at + width ≤ to → ((n : ℕ) → (Bytes (src ++ more) → n < 256 ^ width) → Steady F pos lo to (length src) (f n) (g n))
        → Steady F pos lo to (length src) (f (number width src at)) (g (number width (src ++ more) at))
    of_number width at f g a t =
        record { onward = (t _ (λ bytes. number_fits bytes width at)).onward; kept = λ w. rw (← same_number width at (omega arith)) ((t _ (λ bytes. number_fits bytes width at)).kept w) }

    -- from bytes
    pub of_text : (n at : ℕ) {lo to : ℕ} (f g : List ℕ → Result B ℕ) → at + n ≤ to → at + n ≤ length (src ++ more) → ((b : List ℕ) → length b ≡ n → Steady F pos lo to (length src) (f b) (g b))
        → Steady F pos lo to (length src) (f (take n (drop at src))) (g (take n (drop at (src ++ more))))
    of_text n at f g a m t = record { onward = (t _ (text_fits n at m)).onward; kept = λ w. rw (← same_text n at (omega arith)) ((t _ (text_fits n at m)).kept w) }

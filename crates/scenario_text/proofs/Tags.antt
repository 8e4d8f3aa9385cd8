-- Bytes of a word: a tag's, or one.
use Rattle.std.proofs.Common.{◌≡◌, ℕ, zero, suc, ◌*◌, ◌<◌, ◌≤◌, Bool, true, false, cond, min, List, [], ◌∷◌, length, get_or, Option, None, Some, Result, Ok, Err, MatchOption, Bor, refl, sym, ◌∙◌, ap, subst, arith, nat_lt}
use Rattle.std.specs.Option.{ok_or}
use Rattle.std.specs.Global.{Vec}
use borrow.Author.Tests.{ltb-true, ltb-false}
use Rattle.std.proofs.lemmas.List.{length-take}
use Rattle.amqp.specs.declared.tag.DeliveryTag.{DeliveryTag}
use Rattle.amqp.specs.Tags.{tag_bytes, tag_from}
use Rattle.amqp.proofs.Tags.{bytes_from}
use Rattle.headers_text.specs.Shows.{tag_text}
use Rattle.headers_text.specs.Hex.{pairs}
use Rattle.headers_text.specs.declared.hex.HexFault.{HexFault}
use Rattle.headers_text.specs.declared.hex.HexFault.TheVariants.{Memory}
use Rattle.scenario_text.specs.declared.fault.Fault.{Fault}
use Rattle.scenario_text.specs.declared.fault.Fault.TheVariants.{OutOfMemory}
use Rattle.scenario_text.specs.Commands.{IsTag, byte_text}
use Rattle.scenario_text.specs.Faults.{digits_fault}
use Rattle.scenario_text.specs.Shown.{tag_word}
use Rattle.scenario_text.specs.Values.{AreBytes, bytes_text}
use Rattle.scenario_text.specs.Words.{keyed, field, TakesOrNoMemory}
use Rattle.scenario_text.proofs.Digits.{length_pairs, tag_bytes_text}
use Rattle.scenario_text.proofs.Takings.{same_value}

pub tag_within_is : (s : List ℕ) (b : Bool) → nat_lt 32 (length s) ≡ b → AreBytes s → MatchOption (cond b None (Some (tag_from s))) (32 < length s) (λ t. IsTag t × (tag_bytes t ≡ s))
tag_within_is s true e all = ltb-true 32 (length s) e
tag_within_is s false e all =
    let f = bytes_from s (ltb-false 32 (length s) e) in (subst AreBytes (sym f) all, f)

short : (t : DeliveryTag) → length (tag_bytes t) ≤ 32
short t = omega (arith, length-take (min t.len 32) t.bytes)

length_text : (bs : List ℕ) → 0 < length bs → length (bytes_text bs) ≡ 2 * length bs
length_text [] some = absurd (omega arith)
length_text (b ∷ bs) some = length_pairs (b ∷ bs)

length_most : (bs : List ℕ) → length bs ≤ 32 → length (bytes_text bs) ≤ 64
length_most [] le = omega arith
length_most (b ∷ bs) le = omega (arith, length_pairs (b ∷ bs))

too_long : (text bs : List ℕ) (t : DeliveryTag) → text ≡ bytes_text bs → 32 < length bs → text ≡ tag_text t → ⊥
too_long text bs t e long f =
    let a = ap length e in
    let b = ap length (f ∙ tag_bytes_text t) in
    omega (arith, length_text bs (omega arith), length_most (tag_bytes t) (short t))

pub tag_taken : (key text slice : List ℕ) (old new : List (List ℕ)) (v : Vec ℕ) (o : Option DeliveryTag) (f : Fault) (q : Result DeliveryTag Fault) → q ≡ ok_or o f → text ≡ bytes_text v.items → slice ≡ v.items → MatchOption o (32 < length slice) (λ t. IsTag t × (tag_bytes t ≡ slice)) → old ≡ keyed key text ∷ new → TakesOrNoMemory (field key tag_word) IsTag old new q
unfolding tag_word
tag_taken key text slice old new v None f (Ok t) e h s m o = cc
tag_taken key text slice old new v None f (Err g) e h s m o =
    record {
      taken = tt;
      refused = λ there t rest fits p. let w : keyed key text ≡ keyed key (tag_text t) = cc in too_long text v.items t h (subst (λ x. 32 < length x) s m) (same_value key text (tag_text t) w);
    }
tag_taken key text slice old new v (Some u) f (Ok t) e h s m o =
    let same : u ≡ t = cc in
    let P : DeliveryTag → Type 0 = λ x. IsTag x × (old ≡ keyed key (tag_text x) ∷ new) in
    let b = m.1 in
    record { taken = subst P same (m.0, o ∙ ap (λ x. keyed key x ∷ new) (h ∙ ap bytes_text (sym s ∙ sym b) ∙ sym (tag_bytes_text u))); refused = tt }
tag_taken key text slice old new v (Some u) f (Err g) e h s m o = cc

memory_told : (key : Bor (List ℕ)) (f : HexFault) → f ≡ Memory → digits_fault key f ≡ OutOfMemory
memory_told key f e = ap (digits_fault key) e

pub tag_refused : (key text : List ℕ) (old new : List (List ℕ)) (k : Bor (List ℕ)) (f : HexFault) (g : Fault) → g ≡ digits_fault k f → ((f ≡ Memory → ⊥) → (bs : List ℕ) → AreBytes bs → text ≡ bytes_text bs → ⊥) → old ≡ keyed key text ∷ new → TakesOrNoMemory (field key tag_word) IsTag old new (Err g)
unfolding tag_word
tag_refused key text old new k f g e h o =
    record {
      taken = tt;
      refused = λ there t rest fits p. let w : keyed key text ≡ keyed key (tag_text t) = cc in h (λ m. there (e ∙ memory_told k f m)) (tag_bytes t) fits (same_value key text (tag_text t) w ∙ tag_bytes_text t);
    }

one_at : (b : ℕ) → b < 256 → (k d : ℕ) → k < 1 → get_or (b ∷ []) k d < 256
one_at b small zero d lt = small
one_at b small (suc k) d lt = absurd (omega arith)

one_byte : (b : ℕ) → b < 256 → AreBytes (b ∷ [])
one_byte b small = λ k d lt. one_at b small k d lt

lone : (text bs : List ℕ) (b : ℕ) → text ≡ bytes_text bs → text ≡ pairs (b ∷ []) → (x : ℕ) × (bs ≡ x ∷ [])
lone text [] b e f = let l : length text ≡ 1 = ap length e in let m : length text ≡ 2 = ap length f in absurd (omega arith)
lone text (x ∷ []) b e f = (x, refl)
lone text (x ∷ y ∷ bs) b e f =
    let l = ap length e in let m : length text ≡ 2 = ap length f in absurd (omega (arith, length_pairs (x ∷ y ∷ bs)))

pub byte_taken : (key text slice : List ℕ) (old new : List (List ℕ)) (v : Vec ℕ) (o : Option ℕ) (f : Fault) (q : Result ℕ Fault) → q ≡ ok_or o f → text ≡ bytes_text v.items → slice ≡ v.items → MatchOption o ((b : ℕ) → slice ≡ b ∷ [] → ⊥) (λ b. (b < 256) × (slice ≡ b ∷ [])) → old ≡ keyed key text ∷ new → TakesOrNoMemory (field key byte_text) (λ b. b < 256) old new q
unfolding byte_text
byte_taken key text slice old new v None f (Ok t) e h s m o = cc
byte_taken key text slice old new v None f (Err g) e h s m o =
    record {
      taken = tt;
      refused = λ there b rest fits p. let w : keyed key text ≡ keyed key (pairs (b ∷ [])) = cc in let l = lone text v.items b h (same_value key text (pairs (b ∷ [])) w) in m l.0 (s ∙ l.1);
    }
byte_taken key text slice old new v (Some u) f (Ok t) e h s m o =
    let same : u ≡ t = cc in
    let P : ℕ → Type 0 = λ x. (x < 256) × (old ≡ keyed key (pairs (x ∷ [])) ∷ new) in
    let b = m.1 in
    record { taken = subst P same (m.0, o ∙ ap (λ x. keyed key x ∷ new) (h ∙ ap bytes_text (sym s ∙ b))); refused = tt }
byte_taken key text slice old new v (Some u) f (Err g) e h s m o = cc

pub byte_refused : (key text : List ℕ) (old new : List (List ℕ)) (k : Bor (List ℕ)) (f : HexFault) (g : Fault) → g ≡ digits_fault k f → ((f ≡ Memory → ⊥) → (bs : List ℕ) → AreBytes bs → text ≡ bytes_text bs → ⊥) → old ≡ keyed key text ∷ new → TakesOrNoMemory (field key byte_text) (λ b. b < 256) old new (Err g)
unfolding byte_text
byte_refused key text old new k f g e h o =
    record {
      taken = tt;
      refused = λ there b rest fits p. let w : keyed key text ≡ keyed key (pairs (b ∷ [])) = cc in h (λ m. there (e ∙ memory_told k f m)) (b ∷ []) (one_byte b fits) (same_value key text (pairs (b ∷ [])) w);
    }

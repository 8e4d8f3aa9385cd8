-- Pairs of digits and the bytes that they write.
use Rattle.std.proofs.Common.{◌≡◌, ℕ, zero, suc, ◌⊎◌, inl, inr, sym, ap, ◌∙◌, subst, ◌+◌, ◌-◌, ◌^◌, ◌*◌, ◌/◌, ◌%◌, ◌<◌, ◌≤◌, false, List, [], ◌∷◌, ◌++◌, length, get_or, take, drop, refl, append_assoc, arith, rules, Fits, w8}
use Rattle.std.specs.Fmt.{padded_integral, format_spec, digits}
use Rattle.std.specs.List.{concat}
use Rattle.std.specs.Simd.{first_chunks}
use Rattle.std.proofs.lemmas.Fmt.{hex_byte}
use Rattle.std.proofs.lemmas.List.{take_more, take_all, take-append-drop, append-nil, length-take-le, length-append, length-drop, get_or-take, get_or-drop}
use Rattle.std.proofs.Math.Seq.{take-append_seam}
use Rattle.std.proofs.lemmas.List.Folds.{concat-append}
use Rattle.headers_text.specs.Hex.{glyph, pairs, Pair, Added, Begun, Digit, Undigital, Stopped}

pub pairs_push : (xs : List ℕ) (v : ℕ) → pairs (xs ++ v ∷ []) ≡ pairs xs ++ (glyph (v / 16) ∷ glyph (v % 16) ∷ [])
pairs_push [] v = refl
pairs_push (x ∷ xs) v = let ih = pairs_push xs v in cc

-- one more byte, as `{:02x}` writes it
pub pairs_more : (bs : List ℕ) (i : ℕ) → i < length bs → Fits w8 (get_or bs i 0) → pairs (take i bs) ++ padded_integral (format_spec 32 0 4 2 (2 ^ 64 - 1)) false [] (digits 16 false (get_or bs i 0)) ≡ pairs (take (i + 1) bs)
pairs_more bs i lt small =
    let more = take_more bs i 0 lt in
    let push = pairs_push (take i bs) (get_or bs i 0) in
    let two = hex_byte false (get_or bs i 0) (search rules) in
    cc

two_digits : (xs : List ℕ) → length xs ≡ 2 → xs ≡ get_or xs 0 0 ∷ get_or xs 1 0 ∷ []
two_digits [] e = cc
two_digits (a ∷ []) e = cc
two_digits (a ∷ b ∷ []) e = refl
two_digits (a ∷ b ∷ x ∷ xs) e = absurd (omega arith)

chunk_is_two : (k : ℕ) (xs : List ℕ) (i : ℕ) → 2 * k ≤ length xs → i < k → length (get_or (first_chunks 2 k xs) i []) ≡ 2
chunk_is_two zero xs i fits lt = absurd (omega arith)
chunk_is_two (suc k) xs zero fits lt = length-take-le 2 xs (omega arith)
chunk_is_two (suc k) xs (suc i) fits lt = chunk_is_two k (drop 2 xs) i (omega (arith, length-drop 2 xs)) (omega arith)

chunks_are_all : (k : ℕ) (xs : List ℕ) → length xs ≡ 2 * k → concat (first_chunks 2 k xs) ≡ xs
chunks_are_all zero [] e = refl
chunks_are_all zero (x ∷ xs) e = cc
chunks_are_all (suc k) xs e =
    let rest = chunks_are_all k (drop 2 xs) (omega (arith, length-drop 2 xs)) in
    let whole = take-append-drop 2 xs in
    cc

-- one more chunk
pub added_more : (text old mid new : List ℕ) (chunks : List (List ℕ)) (i v : ℕ) → chunks ≡ first_chunks 2 (length text / 2) text → i < length chunks → length chunks ≡ length text / 2 → Added (concat (take i chunks)) old mid → Pair (get_or (get_or chunks i []) 0 0) (get_or (get_or chunks i []) 1 0) v → new ≡ mid ++ v ∷ [] → Added (concat (take (i + 1) chunks)) old new
added_more text old mid new chunks i v are lt len a p e =
    let chunk = get_or chunks i [] in
    let more = take_more chunks i [] lt in
    let join = concat-append (take i chunks) (chunk ∷ []) in
    let nil = append-nil chunk in
    let long : length chunk ≡ 2 = rw are (chunk_is_two (length text / 2) text i (omega arith) (omega arith)) in
    let two = two_digits chunk long in
    let push = pairs_push a.bytes v in
    let first = p.first in
    let second = p.second in
    let written = a.written in
    let after = a.after in
    let tail = append_assoc old a.bytes (v ∷ []) in
    record { bytes = a.bytes ++ v ∷ []; written = cc; after = cc }

-- after the last, where none is left over
pub added_all : (text old new : List ℕ) (chunks : List (List ℕ)) (i : ℕ) → chunks ≡ first_chunks 2 (length text / 2) text → length chunks ≤ i → length text % 2 ≡ 0 → Added (concat (take i chunks)) old new → Added text old new
added_all text old new chunks i are le even a =
    let whole = take_all i chunks le in
    let all = chunks_are_all (length text / 2) text (omega arith) in
    let written = a.written in
    record { bytes = a.bytes; written = cc; after = a.after }

chunk_byte : (k : ℕ) (xs : List ℕ) (i j : ℕ) → i < k → j < 2 → get_or (get_or (first_chunks 2 k xs) i []) j 0 ≡ get_or xs (2 * i + j) 0
chunk_byte zero xs i j lt two = absurd (omega arith)
chunk_byte (suc k) xs zero j lt two = get_or-take 2 xs j 0 two ∙ ap (λ n. get_or xs n 0) (omega arith)
chunk_byte (suc k) xs (suc i) j lt two =
    chunk_byte k (drop 2 xs) i j (omega arith) two ∙ get_or-drop 2 xs (2 * i + j) 0 ∙ ap (λ n. get_or xs n 0) (omega arith)

length_pairs : (bs : List ℕ) → length (pairs bs) ≡ 2 * length bs
length_pairs [] = refl
length_pairs (b ∷ bs) = omega (arith, length_pairs bs)

length_chunks : (k : ℕ) (xs : List ℕ) (i : ℕ) → 2 * k ≤ length xs → i ≤ k → length (concat (take i (first_chunks 2 k xs))) ≡ 2 * i
length_chunks k xs zero fits le = refl
length_chunks zero xs (suc i) fits le = absurd (omega arith)
length_chunks (suc k) xs (suc i) fits le =
    let rest = length_chunks k (drop 2 xs) i (omega (arith, length-drop 2 xs)) (omega arith) in
    omega (arith, length-append (take 2 xs) (concat (take i (first_chunks 2 k (drop 2 xs)))), length-take-le 2 xs (omega arith))

-- as many bytes were added as chunks were read
pub added_count : (text old new : List ℕ) (chunks : List (List ℕ)) (i : ℕ) → chunks ≡ first_chunks 2 (length text / 2) text → i ≤ length text / 2 → (a : Added (concat (take i chunks)) old new) → length a.bytes ≡ i
added_count text old new chunks i are le a =
    let n : length (concat (take i chunks)) ≡ 2 * i = rw are (length_chunks (length text / 2) text i (omega arith) le) in
    let w : length (concat (take i chunks)) ≡ length (pairs a.bytes) = ap length a.written in
    omega (arith, length_pairs a.bytes)

-- what was added so far is the front of all
pub begun : (text old new : List ℕ) (chunks : List (List ℕ)) (i : ℕ) → chunks ≡ first_chunks 2 (length text / 2) text → length text % 2 ≡ 0 → Added (concat (take i chunks)) old new → Begun text old new
begun text old new chunks i are even a =
    let all = chunks_are_all (length text / 2) text (omega arith) in
    let parts = take-append-drop i chunks in
    let join = concat-append (take i chunks) (drop i chunks) in
    let written = a.written in
    let rest : List ℕ = concat (drop i chunks) in
    let split : text ≡ pairs a.bytes ++ rest = cc in
    record { bytes = a.bytes; written = ap (take (length (pairs a.bytes))) split ∙ take-append_seam (pairs a.bytes) rest; after = a.after }

-- a chunk's byte that is no digit is one of the text
faulty : (text : List ℕ) (i j : ℕ) → i < length text / 2 → j < 2 → (Digit (get_or (get_or (first_chunks 2 (length text / 2) text) i []) j 0) → ⊥) → Digit (get_or text (2 * i + j) 0) → ⊥
faulty text i j lt two f d = f (subst Digit (sym (chunk_byte (length text / 2) text i j lt two)) d)

undigital : (text : List ℕ) (i : ℕ) (chunks : List (List ℕ)) → chunks ≡ first_chunks 2 (length text / 2) text → i < length text / 2 → (Digit (get_or (get_or chunks i []) 0 0) → ⊥) ⊎ (Digit (get_or (get_or chunks i []) 1 0) → ⊥) → Undigital text i
undigital text i chunks are lt (inl f) =
    record {
      within = omega arith;
      fault = inl (λ d. faulty text i 0 lt (omega arith) (λ e. f (subst (λ cs. Digit (get_or (get_or cs i []) 0 0)) (sym are) e)) (subst (λ n. Digit (get_or text n 0)) (omega arith) d));
    }
undigital text i chunks are lt (inr f) =
    record { within = omega arith; fault = inr (faulty text i 1 lt (omega arith) (λ e. f (subst (λ cs. Digit (get_or (get_or cs i []) 1 0)) (sym are) e))) }

pub stopped : (text old new : List ℕ) (chunks : List (List ℕ)) (i : ℕ) → chunks ≡ first_chunks 2 (length text / 2) text → length text % 2 ≡ 0 → i < length text / 2 → (Digit (get_or (get_or chunks i []) 0 0) → ⊥) ⊎ (Digit (get_or (get_or chunks i []) 1 0) → ⊥) → Added (concat (take i chunks)) old new → Stopped text old new
unfolding begun
stopped text old new chunks i are even lt f a =
    record { begun = begun text old new chunks i are even a; fault = subst (Undigital text) (sym (added_count text old new chunks i are (omega arith) a)) (undigital text i chunks are lt f) }

-- where memory has no room for one more byte, it had none for all
pub no_room : (text old new : List ℕ) (chunks : List (List ℕ)) (i before now : ℕ) → chunks ≡ first_chunks 2 (length text / 2) text → i < length text / 2 → Added (concat (take i chunks)) old new → before ≤ now → now ≤ length new → before < length old + length text / 2
no_room text old new chunks i before now are lt a le full =
    let n : length new ≡ length (old ++ a.bytes) = ap length a.after in
    omega (arith, length-append old a.bytes, added_count text old new chunks i are (omega arith) a)

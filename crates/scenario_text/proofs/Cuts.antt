-- The words of a line, as they come off its front.
use Rattle.std.proofs.Common.{◌≡◌, ℕ, suc, ◌<◌, ◌≤◌, Bool, true, false, List, [], ◌∷◌, ◌++◌, length, get_or, filter, Option, None, Some, Bor, MatchOption, refl, ◌∙◌, arith, ◌⊎◌, inl, inr}
use Rattle.std.specs.Char.{is_ascii_whitespace}
use Rattle.std.specs.List.{slice_split, All, AllPass}
use Rattle.std.specs.Str.{NoCharPasses}
use Rattle.std.specs.Str.Iter.{CutsAsciiWord, IsAsciiSeparator}
use Rattle.std.proofs.lemmas.Bool.{cases_lt}
use Rattle.std.proofs.lemmas.Bool.Decides.{nat_tests}
use Rattle.std.proofs.lemmas.List.{append-nil, get_or_default}
use Rattle.std.proofs.lemmas.List.Splits.{slice_split_at, slice_split_none, slice_split-cons_yes}
use Rattle.std.proofs.lemmas.Str.{NoCharPasses-byte}
use Rattle.scenario_text.specs.Words.{is_word, words}

abbrev blank : ℕ → Bool
blank = is_ascii_whitespace

no_high_blank : (c : ℕ) → 128 ≤ c → blank c ≡ false
no_high_blank c high = grind (arith, nat_tests)

byte_not_blank : (x : List ℕ) (k : ℕ) → NoCharPasses blank x → k < length x → (get_or x k 0 < 128) ⊎ (128 ≤ get_or x k 0) → blank (get_or x k 0) ≡ false
byte_not_blank x k h lt (inl low) = NoCharPasses-byte blank x k h lt low
byte_not_blank x k h lt (inr high) = no_high_blank (get_or x k 0) high

no_blank : (x : List ℕ) → NoCharPasses blank x → All (λ b. blank b ≡ false) x
no_blank x h = λ k d lt. rw (get_or_default x k d 0 lt) (byte_not_blank x k h lt (cases_lt (get_or x k 0) 128))

first_blank : (g : ℕ) (gap : List ℕ) → AllPass blank (g ∷ gap) → blank g ≡ true
first_blank g gap all = all 0 0 (omega arith)

more_blank : (g : ℕ) (gap : List ℕ) → AllPass blank (g ∷ gap) → AllPass blank gap
more_blank g gap all = λ k d lt. all (suc k) d (omega arith)

-- blanks in front are passed over
words_past : (gap rest : List ℕ) → AllPass blank gap → words (gap ++ rest) ≡ words rest
unfolding words
words_past [] rest all = refl
words_past (g ∷ gap) rest all =
    let cut = slice_split-cons_yes blank g (gap ++ rest) (first_blank g gap all) in
    let ih = words_past gap rest (more_blank g gap all) in
    rw cut ih

no_words : (gap : List ℕ) → AllPass blank gap → words gap ≡ []
unfolding words
no_words gap all = let e = append-nil gap in let f = words_past gap [] all in cc

kept : (x : List ℕ) (xs : List (List ℕ)) → 0 < length x → filter is_word (x ∷ xs) ≡ x ∷ filter is_word xs
kept [] xs long = absurd (omega arith)
kept (c ∷ x) xs long = refl

-- a word comes off the front, with what parts it from the rest
words_word : (x sep rest : List ℕ) → 0 < length x → All (λ b. blank b ≡ false) x → IsAsciiSeparator sep rest → words (x ++ (sep ++ rest)) ≡ x ∷ words rest
unfolding words
words_word x [] [] long none h =
    let nil = append-nil x in
    let cut = slice_split_none blank x none in
    rw (nil, cut) (kept x [] long)
words_word x [] (c ∷ rest) long none h = absurd (omega (arith, h.2 refl))
words_word x (s ∷ []) rest long none h =
    rw (slice_split_at blank x s rest none (h.0 0 0 (omega arith))) (kept x (slice_split blank rest) long)
words_word x (s ∷ t ∷ sep) rest long none h = absurd (omega (arith, h.1))

pub words_cut : (bs rest : List ℕ) (r : Option (Bor (List ℕ))) → CutsAsciiWord bs r rest (λ gap x sep. gap ++ (x ++ (sep ++ rest))) → MatchOption r ((words bs ≡ []) × (words rest ≡ [])) (λ w. words bs ≡ w.now ∷ words rest)
unfolding words
words_cut bs [] None h = (no_words bs h.0, refl)
words_cut bs (c ∷ rest) None h = absurd (omega (arith, h.1))
words_cut bs rest (Some w) h =
    let past = words_past h.3.0 (w.now ++ (h.3.1 ++ rest)) h.3.3 in
    let word = words_word w.now h.3.1 rest h.0 (no_blank w.now h.1) h.3.4 in
    let e = h.3.2 in
    rw e (past ∙ word)

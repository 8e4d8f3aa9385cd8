-- What a word is read as, and words one after the other.
use Rattle.std.proofs.Common.{◌≡◌, ℕ, ◌+◌, ◌<◌, ◌≤◌, ◌⊎◌, List, [], ◌∷◌, ◌++◌, map, length, get_or, take, drop, Some, None, Ok, Err, Option, Result, sym, refl, ap, ◌∙◌, subst, inl, inr, ⊎_elim, arith, drop-cons, MatchResult}
use Rattle.std.proofs.lemmas.List.{length-map, get_or-map, take_more, take_all, take-append-drop}
use Rattle.shipping.specs.declared.options.Key.{Key}
use Rattle.shipping.specs.declared.options.Options.{Options}
use Rattle.shipping.specs.declared.options.UsageError.{UsageError}
use Rattle.shipping.specs.declared.options.UsageError.TheVariants.{NoMemory}
use Rattle.shipping.specs.Words.{key_text, SoFar, Begins, NamesFile, Takes, TakesAll, Stops, Meant}

-- ---- one word

pub at_number : (a : Option Key) (k : Key) (word : List ℕ) (s t : SoFar) (r : Result (Unit {0}) UsageError) → a ≡ Some k → MatchResult r (λ _. Takes (Some k) word s t) (λ e. (e ≡ NoMemory) ⊎ ((u : SoFar) → Takes (Some k) word s u → ⊥)) → MatchResult r (λ _. Takes a word s t) (λ e. (e ≡ NoMemory) ⊎ ((u : SoFar) → Takes a word s u → ⊥))
at_number a k word s t (Ok x) e h = rw e h
at_number a k word s t (Err x) e (inl m) = inl m
at_number a k word s t (Err x) e (inr h) = inr (λ u g. h u (rw e at g))

pub at_file : (a : Option Key) (word : List ℕ) (s t : SoFar) (r : Result (Unit {0}) UsageError) → ((k : Key) → a ≡ Some k → ⊥) → ((k : Key) → word ≡ key_text k → ⊥) → MatchResult r (λ _. NamesFile word s t) (λ e. (e ≡ NoMemory) ⊎ ((u : SoFar) → NamesFile word s u → ⊥)) → MatchResult r (λ _. Takes a word s t) (λ e. (e ≡ NoMemory) ⊎ ((u : SoFar) → Takes a word s u → ⊥))
at_file (Some k) word s t r a n h = absurd (a k refl)
at_file None word s t (Ok x) a n h = inr h
at_file None word s t (Err x) a n (inl m) = inl m
at_file None word s t (Err x) a n (inr h) = inr (λ u g. ⊎_elim (λ (b : Begins word s u). n b.0 b.1) (λ (f : NamesFile word s u). h u f) g)

-- ---- all words

pub takes_push : (ws : List (List ℕ)) (w : List ℕ) (s t u : SoFar) → TakesAll ws s t → Takes t.awaits w t u → TakesAll (ws ++ w ∷ []) s u
takes_push [] w s t u h g = (u, rw h at g, refl)
takes_push (x ∷ ws) w s t u h g = (h.0, h.1, takes_push ws w h.0 t u h.2 g)

-- the word at an index, among their bytes
word_at : {X : Type 0} (f : X → List ℕ) (words : List X) (i : ℕ) (x : X) (w : List ℕ) → i < length words → x ≡ get_or words i x → w ≡ f x → get_or (map f words) i w ≡ w
word_at f words i x w lt e h = get_or-map f words i x w lt ∙ ap f (sym e) ∙ sym h

pub word_taken : {X : Type 0} (f : X → List ℕ) (words : List X) (i : ℕ) (x : X) (w : List ℕ) (s t u : SoFar) → i < length words → x ≡ get_or words i x → w ≡ f x → TakesAll (take i (map f words)) s t → Takes t.awaits w t u → TakesAll (take (i + 1) (map f words)) s u
word_taken f words i x w s t u lt e h before here =
    let all = map f words in
    let more = take_more all i w (omega (arith, length-map words f)) ∙ ap (λ (y : List ℕ). take i all ++ y ∷ []) (word_at f words i x w lt e h) in
    rw more (takes_push (take i all) w s t u before here)

stops_after : (ws vs : List (List ℕ)) (s t : SoFar) → TakesAll ws s t → Stops vs t → Stops (ws ++ vs) s
stops_after [] vs s t h g = subst (λ (x : SoFar). Stops vs x) h g
stops_after (w ∷ ws) vs s t h g = inr (h.0, h.1, stops_after ws vs h.0 t h.2 g)

pub stops_at : {X : Type 0} (f : X → List ℕ) (words : List X) (i : ℕ) (x : X) (w : List ℕ) (s t : SoFar) → i < length words → x ≡ get_or words i x → w ≡ f x → TakesAll (take i (map f words)) s t → ((u : SoFar) → Takes t.awaits w t u → ⊥) → Stops (map f words) s
stops_at f words i x w s t lt e h before stuck =
    let all = map f words in
    let rest = drop-cons all i w (omega (arith, length-map words f)) in
    let here = word_at f words i x w lt e h in
    let stop : Stops (drop i all) t = rw (rest, here) (inl stuck) in
    subst (λ (ws : List (List ℕ)). Stops ws s) (take-append-drop i all) (stops_after (take i all) (drop i all) s t before stop)

pub refused : (P : Options → Type 0) (r : Result Options UsageError) (e : UsageError) (ws : List (List ℕ)) (s : SoFar) → r ≡ Err e → (e ≡ NoMemory) ⊎ Stops ws s → MatchResult r P (λ y. (y ≡ NoMemory) ⊎ Stops ws s)
refused P r e ws s is h = rw is h

-- ---- after the last word

pub whole_read : {X : Type 0} (f : X → List ℕ) (words : List X) (i : ℕ) (s t : SoFar) → length words ≤ i → TakesAll (take i (map f words)) s t → TakesAll (map f words) s t
whole_read f words i s t le h = rw (sym (take_all i (map f words) (omega (arith, length-map words f)))) h

end_of : (ws : List (List ℕ)) (s t : SoFar) → TakesAll ws s t → (t.awaits ≡ None → t.parcels ≡ []) → Stops ws s
end_of [] s t h g = subst (λ (x : SoFar). x.awaits ≡ None → x.parcels ≡ []) h g
end_of (w ∷ ws) s t h g = inr (h.0, h.1, end_of ws h.0 t h.2 g)

pub finished : (ws : List (List ℕ)) (s t : SoFar) (r : Result Options UsageError) → TakesAll ws s t → MatchResult r (λ o. Meant t o) (λ _. t.awaits ≡ None → t.parcels ≡ []) → MatchResult r (λ o. (u : SoFar) × TakesAll ws s u × Meant u o) (λ e. (e ≡ NoMemory) ⊎ Stops ws s)
finished ws s t (Ok o) h m = (t, h, m)
finished ws s t (Err e) h m = inr (end_of ws s t h m)

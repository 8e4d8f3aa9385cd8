-- One more part of a list, each with a blank before it.
use Rattle.std.proofs.Common.{◌≡◌, ℕ, ◌+◌, ◌<◌, List, [], ◌∷◌, ◌++◌, length, get_or, take, append_assoc}
use Rattle.std.proofs.lemmas.List.{take_more, append-nil}
use Rattle.scenario_play.specs.Texts.{next, spaced}

spaced_push : {A : Type 0} (text : A → List ℕ) (xs : List A) (x : A) → spaced text (xs ++ x ∷ []) ≡ spaced text xs ++ next text x
spaced_push text [] x = append-nil (next text x)
spaced_push text (y ∷ xs) x =
    let ih = spaced_push text xs x in
    let moved = append_assoc (next text y) (spaced text xs) (next text x) in
    cc

pub spaced_more : {A : Type 0} (text : A → List ℕ) (xs : List A) (i : ℕ) (x : A) → i < length xs → x ≡ get_or xs i x → spaced text (take i xs) ++ next text x ≡ spaced text (take (i + 1) xs)
spaced_more text xs i x lt is =
    let more = take_more xs i x lt in
    let push = spaced_push text (take i xs) x in
    cc

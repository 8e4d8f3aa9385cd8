-- How a list is written, one by one, over the front of another, and what is shown of a table.
use Rattle.std.proofs.Common.{◌≡◌, ℕ, ◌+◌, ◌<◌, List, [], ◌∷◌, ◌++◌, map, length, get_or, take, drop, set, sym, ap, ◌∙◌, arith}
use Rattle.std.proofs.lemmas.List.{append_assoc, drop_more, map_more, set_at, length-map, length-take-le}

-- one more is written
pub written_more : {X Y : Type 0} (f : X → Y) (xs : List X) (out : List Y) (i : ℕ) (d : X) (y : Y) → i < length xs → i < length out → y ≡ f (get_or xs i d) → set (map f (take i xs) ++ drop i out) i y ≡ map f (take (i + 1) xs) ++ drop (i + 1) out
written_more f xs out i d y l m e =
    let p = map f (take i xs) in
    ap (λ ys. set (p ++ ys) i y) (drop_more out i y m)
    ∙ set_at p (get_or out i y) (drop (i + 1) out) y i (length-map (take i xs) f ∙ length-take-le i xs (omega arith))
    ∙ sym (append_assoc p (y ∷ []) (drop (i + 1) out))
    ∙ ap (λ z. (p ++ z ∷ []) ++ drop (i + 1) out) e
    ∙ ap (λ ys. ys ++ drop (i + 1) out) (sym (map_more f xs i d l))

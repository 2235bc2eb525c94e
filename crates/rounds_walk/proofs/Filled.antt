-- A list that is changed from its front on.
use Rattle.std.proofs.Common.{◌≡◌, ℕ, ◌<◌, ◌+◌, List, [], ◌∷◌, ◌++◌, length, map, take, drop, set, get_or, sym, ap, ◌∙◌, arith}
use Rattle.std.proofs.lemmas.List.{append_assoc, drop_more, get_or_at, length-map, length-take-le, map_more, set_at}

-- one element more is changed
pub filled_more : {X : Type 0} (f : X → X) (xs here : List X) (i : ℕ) (d : X) → i < length xs → here ≡ map f (take i xs) ++ drop i xs → set here i (f (get_or here i d)) ≡ map f (take (i + 1) xs) ++ drop (i + 1) xs
filled_more {X} f xs here i d inside is =
    let front : List X = map f (take i xs) in
    let x : X = get_or xs i d in
    let back : List X = drop (i + 1) xs in
    let long : length front ≡ i = length-map (take i xs) f ∙ length-take-le i xs (omega arith) in
    let split : here ≡ front ++ x ∷ back = is ∙ ap (λ (ys : List X). front ++ ys) (drop_more xs i d inside) in
    let read : get_or here i d ≡ x = ap (λ (ys : List X). get_or ys i d) split ∙ get_or_at front x back d i long in
    ap (λ (y : X). set here i (f y)) read
    ∙ ap (λ (ys : List X). set ys i (f x)) split
    ∙ set_at front x back (f x) i long
    ∙ sym (append_assoc front (f x ∷ []) back)
    ∙ ap (λ (ys : List X). ys ++ back) (sym (map_more f xs i d inside))

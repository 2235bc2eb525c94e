-- Turns of loops over neighbours and over what is counted.
use Rattle.std.proofs.Common.{◌≡◌, ℕ, ◌+◌, ◌<◌, ◌≤◌, List, [], ◌∷◌, ◌++◌, length, map, take, drop, set, get_or, sym, ap, ◌∙◌, arith}
use Rattle.std.specs.Prelude.{sum}
use Rattle.std.proofs.lemmas.List.{append_assoc, drop_more, get_or_at, length-map, length-take-le, map_more, set_at}
use Rattle.std.proofs.lemmas.List.Sums.{sum_by_push}
use Rattle.rule_lang.specs.declared.tree.Agg.{Agg}
use Rattle.rule_check.specs.declared.state.Near.{Near}
use Rattle.rule_check.specs.Table.{gather, gather_step}
use Rattle.rule_check.proofs.Gathers.{gather_push}

-- an aggregate with one neighbour more
pub gather_more : (agg : Agg) (v : Near → ℕ) (nears : List Near) (i : ℕ) (d : Near) → i < length nears → length nears ≤ 4294967295
    → gather agg (map v (take (i + 1) nears)) ≡ gather_step agg (gather agg (map v (take i nears))) (v (get_or nears i d))
gather_more agg v nears i d inside few =
    let front : List ℕ = map v (take i nears) in
    let long : length front ≡ i = length-map (take i nears) v ∙ length-take-le i nears (omega arith) in
    ap (gather agg) (map_more v nears i d inside) ∙ gather_push agg front (v (get_or nears i d)) (omega (arith, long, inside, few))

-- a plain total with one neighbour more
pub total_more : (v : Near → ℕ) (nears : List Near) (i : ℕ) (d : Near) → i < length nears
    → sum (map v (take (i + 1) nears)) ≡ sum (map v (take i nears)) + v (get_or nears i d)
total_more v nears i d inside =
    ap sum (map_more v nears i d inside) ∙ sum_by_push (λ x. x) (map v (take i nears)) (v (get_or nears i d))

-- one element more of a list is changed
pub filled_more : {X : Type 0} (f : X → X) (xs here : List X) (i : ℕ) (d : X) → i < length xs → here ≡ map f (take i xs) ++ drop i xs → set here i (f (get_or here i d)) ≡ map f (take (i + 1) xs) ++ drop (i + 1) xs
filled_more {X} f xs here i d inside is =
    let front : List X = map f (take i xs) in
    let x : X = get_or xs i d in
    let back : List X = drop (i + 1) xs in
    let long : length front ≡ i = length-map (take i xs) f ∙ length-take-le i xs (omega arith) in
    let split : here ≡ front ++ x ∷ back = is ∙ ap (λ (ys : List X). front ++ ys) (drop_more xs i d inside) in
    let read : get_or here i d ≡ x = ap (λ (ys : List X). get_or ys i d) split ∙ get_or_at front x back d i long in
    ap (λ (y : X). set here i (f y)) read
    ∙ ap (λ (ys : List X). set ys i (f x)) split
    ∙ set_at front x back (f x) i long
    ∙ sym (append_assoc front (f x ∷ []) back)
    ∙ ap (λ (ys : List X). ys ++ back) (sym (map_more f xs i d inside))

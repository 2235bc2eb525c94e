-- The steps of all nodes together, from the start to the stop.
use Rattle.std.proofs.Common.{◌≡◌, ℕ, suc, ◌+◌, ◌-◌, ◌*◌, ◌<◌, false, List, [], ◌∷◌, length, map, get_or, sym, refl, ap, ◌∙◌, arith}
use Rattle.std.specs.List.{range_with_len, sum_by}
use Rattle.std.proofs.lemmas.List.Sums.{sum_by-cons}
use Rattle.link_net.specs.Neighbours.{Neighbours, degree, row}
use Rattle.unison_world.specs.Counting.{marks_of, at_start}
use Rattle.unison_world.specs.Progress.{marks_in, left_at, StepsFromStart}
use Rattle.unison_world.proofs.Steps.{moves-at_start, get_or-map_each}
use Rattle.unison_world.proofs.Progressing.{marks-none}

-- a sum over the places of a list
sum-places : {X : Type 0} (f : X → ℕ) (d : X) (g : ℕ → ℕ) (xs : List X) (a : ℕ) → ((u : ℕ) → u < length xs → g (a + u) ≡ f (get_or xs u d)) → sum_by g (range_with_len a (length xs)) ≡ sum_by f xs
sum-places f d g [] a h = refl
sum-places f d g (x ∷ xs) a h =
    let here : a + 0 ≡ a = omega arith in
    let first : g a ≡ f x = ap g (sym here) ∙ h 0 (omega arith) in
    let rest = sum-places f d g xs (a + 1) (λ u l. (let e : (a + 1) + u ≡ a + suc u = omega arith in ap g e ∙ h (suc u) (omega arith))) in
    let l = sum_by-cons g a (range_with_len (a + 1) (length xs)) in
    let r = sum_by-cons f x xs in
    omega arith

one-more : (k a s n : ℕ) → k * (a + 1) + k * (s + n) ≡ k * ((a + s) + (n + 1))
one-more k a s n = grind arith

none-of : (k : ℕ) → k * 0 ≡ 0
none-of k = grind arith

-- so many rounds of each row
sum-rounds : (k : ℕ) (network : Neighbours) → sum_by (λ (r : List (ℕ × ℕ)). k * (length r + 1)) network ≡ k * (sum_by length network + length network)
sum-rounds k [] = sym (none-of k)
sum-rounds k (r ∷ network) =
    let rest = sum-rounds k network in
    let a = sum_by-cons (λ (x : List (ℕ × ℕ)). k * (length x + 1)) r network in
    let b = sum_by-cons (λ (x : List (ℕ × ℕ)). length x) r network in
    let more = one-more k (length r) (sum_by length network) (length network) in
    let e : (length r + sum_by length network) + (length network + 1) ≡ sum_by length (r ∷ network) + length (r ∷ network) = omega arith in
    let f = ap (λ (x : ℕ). k * x) e in
    omega arith

pub steps_from_start : StepsFromStart
steps_from_start network start stop =
    sum-places (λ (r : List (ℕ × ℕ)). (stop - start) * (length r + 1)) [] (left_at network stop (at_start network start)) network 0
    (λ u h.
    let z : 0 + u ≡ u = omega arith in
    let moves = moves-at_start network start u h in
    let bare = ap marks_in (get_or-map_each (λ (r : List (ℕ × ℕ)). map (λ (a : ℕ × ℕ). false) r) network u []) ∙ marks-none (row network u) in
    let k = (stop - start) * (degree network u + 1) in
    let e : left_at network stop (at_start network start) u ≡ k - 0 =
    ap (λ (m : ℕ). (stop - m) * (degree network u + 1) - marks_in (marks_of (at_start network start) u)) moves ∙ ap (λ (m : ℕ). k - m) bare in
    let all : k - 0 ≡ k = omega arith in
    ap (left_at network stop (at_start network start)) z ∙ e ∙ all)
    ∙ sum-rounds (stop - start) network

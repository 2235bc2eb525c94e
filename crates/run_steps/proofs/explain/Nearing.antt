-- A node that has moved is near its neighbours.
use Rattle.std.proofs.Common.{ℕ, suc, ◌<◌, ◌≤◌, max, List, [], ◌∷◌, length, map, get_or, arith}
use Rattle.std.specs.Int.{abs_diff}
use Rattle.std.specs.List.{fold}
use Rattle.link_net.specs.Neighbours.{Neighbours, row}
use Rattle.link_net.specs.Simple.{IsSimple}
use Rattle.unison_world.specs.declared.step.Step.{Step}
use Rattle.unison_world.specs.declared.step.Step.TheVariants.{Read, Write}
use Rattle.unison_world.specs.declared.step.Answer.{Answer}
use Rattle.unison_world.specs.declared.step.Answer.TheVariants.{Moved}
use Rattle.unison_world.specs.Counting.{Counts, moves_of, at_start, answer_of, after, HasShape, InStep}
use Rattle.unison_world.proofs.Steps.{shape-after, in_step-after, shape-at_start, in_step-at_start}
use Rattle.run_steps.specs.explain.Differences.{differences, difference_after, differences_after, DifferByOneAtMost}

-- no number of the list is above a limit
abbrev AreWithin : ℕ → List ℕ → Type 0
AreWithin m [] = Unit {0}
AreWithin m (x ∷ xs) = (x ≤ m) × AreWithin m xs

greatest-within : (m a : ℕ) (xs : List ℕ) → a ≤ m → AreWithin m xs → fold max a xs ≤ m
greatest-within m a [] h each = h
greatest-within m a (x ∷ xs) h each = (let b = each.0 in greatest-within m (max a x) xs (omega arith) each.1)

row-within : (f : ℕ → ℕ) (m : ℕ) (r : List (ℕ × ℕ)) → ((j : ℕ) → j < length r → f ((get_or r j (0, 0)).0) ≤ m) → AreWithin m (map f (map (λ (a : ℕ × ℕ). a.0) r))
row-within f m [] h = tt
row-within f m (a ∷ r) h = (h 0 (omega arith), row-within f m r (λ j inside. h (suc j) (omega arith)))

difference-within : (network : Neighbours) (stop : ℕ) (c : Counts) (step : Step) (answer : Answer) → InStep network stop c → difference_after network c step answer ≤ 1
difference-within network stop c (Read u j) answer is = omega arith
difference-within network stop c (Write u) answer is =
    elim answer as (λ a. difference_after network c (Write u) a ≤ 1) [
      | Moved ↦ greatest-within 1 0 (differences network c u) (omega arith) (row-within (λ w. abs_diff (moves_of c u) (moves_of c w)) 1 (row network u) (λ j inside. (let n = is.near u j inside in let a = n.0 in let b = n.1 in omega arith)))
      | _ ↦ omega arith
    ]

way-within : (network : Neighbours) (stop : ℕ) (c : Counts) (steps : List Step) → IsSimple network → HasShape network c → InStep network stop c → AreWithin 1 (differences_after network stop c steps)
way-within network stop c [] net shape is = tt
way-within network stop c (step ∷ steps) net shape is =
    let s = shape-after network stop c step shape in
    let i = in_step-after network stop c step net shape is in
    (difference-within network stop (after network stop c step) step (answer_of network stop c step) i, way-within network stop (after network stop c step) steps net s i)

pub differ_by_one_at_most : DifferByOneAtMost
differ_by_one_at_most network start stop steps net late =
    greatest-within 1 0 (differences_after network stop (at_start network start) steps) (omega arith)
    (way-within network stop (at_start network start) steps net (shape-at_start network start) (in_step-at_start network start stop net late))

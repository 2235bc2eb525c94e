-- Nodes before any step.
use Rattle.std.proofs.Common.{◌≡◌, ℕ, List, [], ◌∷◌, map, refl, ap}
use Rattle.rule_check.specs.declared.state.State.{State}
use Rattle.link_net.specs.Neighbours.{row}
use Rattle.rounds_plan.specs.Lockstep.{near_at}
use Rattle.run_naive.specs.Keeping.{nears_from}

-- the neighbours of a row
pub nears_of_row : (at : ℕ → State) (r : List (ℕ × ℕ)) → nears_from at (map (λ a. a.0) r) (map (λ a. a.1) r) ≡ map (near_at at) r
nears_of_row at [] = refl
nears_of_row at (a ∷ r) = ap (λ ns. near_at at a ∷ ns) (nears_of_row at r)

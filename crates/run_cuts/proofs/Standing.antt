-- The neighbours of a node with their states.
use Rattle.std.proofs.Common.{◌≡◌, ◌<◌, ℕ, List, [], ◌∷◌, length, map, refl, ap, ◌∙◌}
use Rattle.rule_check.specs.declared.state.State.{State}
use Rattle.rule_check.specs.declared.state.Near.{Near}
use Rattle.rule_check.specs.Value.{here_at}
use Rattle.link_net.specs.Neighbours.{row, neighbour}
use Rattle.rounds_plan.specs.Lockstep.{lockstep, lockstep_states, near_at, nears_in, state_in}
use Rattle.rounds_plan.specs.Plans.{PlanView}
use Rattle.rounds_plan.proofs.SameNears.{near_same}
use Rattle.rounds_plan.proofs.Nears.{states_at, AreWithin}
use Rattle.run_cuts.specs.Cuts.{here_by, here_in}
use Rattle.run_cuts.specs.Counting.{nears_from}

-- those of a row
pub nears_of_row : (at : ℕ → State) (r : List (ℕ × ℕ)) → nears_from at (map (λ a. a.0) r) (map (λ a. a.1) r) ≡ map (near_at at) r
nears_of_row at [] = refl
nears_of_row at (a ∷ r) = ap (λ ns. near_at at a ∷ ns) (nears_of_row at r)

-- a node by the states of a round that stand in a list
pub here_same : (p : PlanView) (t u : ℕ) (states : List State) → AreWithin p.network → states ≡ lockstep_states p t (length p.network) → u < length p.network
    → here_by p.program p.network t (state_in states) u ≡ here_in p t u
here_same p t u states within made inside =
    let at : ℕ → State = state_in states in
    let nears : nears_in p.network at u ≡ nears_in p.network (lockstep p t) u =
    near_same at (lockstep p t) (row p.network u) (λ j h. states_at p t states (neighbour p.network u j) made (within u j h)) in
    ap (λ (ns : List Near). here_at p.program t u (length ns) (at u) ns) nears
    ∙ ap (λ (s : State). here_at p.program t u (length (nears_in p.network (lockstep p t) u)) s (nears_in p.network (lockstep p t) u)) (states_at p t states u made inside)

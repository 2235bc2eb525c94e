-- The states to which steps move nodes that do not wait.
use Rattle.std.specs.Prelude.{ℕ, List, [], ◌∷◌, max, map, slice_get, nat_lt, if◌then◌else◌, Option, Some, None}
use Rattle.std.specs.List.{fold}
use Rattle.std.specs.Option.{option_map}
use Rattle.rule_check.specs.declared.state.State.{State}
use Rattle.rounds_plan.specs.Plans.{PlanView}
use Rattle.unison_world.specs.declared.step.Step.{Step}
use Rattle.unison_world.specs.declared.step.Step.TheVariants.{Read, Write}
use Rattle.run_naive.specs.Naive.{NaiveNode, after, opening_nodes, run, state_now}

-- the node that a write of u moves: u, where there is such a node and it stands below the stop
abbrev pub mover_by : ℕ → ℕ → Option NaiveNode → Option ℕ
mover_by stop u None = None
mover_by stop u (Some n) = if nat_lt n.moves stop then Some u else None

-- the node that a step moves; none where it is a read
abbrev pub mover : ℕ → List NaiveNode → Step → Option ℕ
mover stop nodes (Read u j) = None
mover stop nodes (Write u) = mover_by stop u (slice_get nodes u)

-- the state to which a step moves its node: the one that the node has after it; none where it moves none
abbrev pub written : PlanView → ℕ → List NaiveNode → Step → Option State
written p stop nodes step = option_map (state_now (after p stop nodes step)) (mover stop nodes step)

-- those of each step of a list, made one after the other from these nodes on
abbrev pub written_from : PlanView → ℕ → List NaiveNode → List Step → List (Option State)
written_from p stop nodes [] = []
written_from p stop nodes (step ∷ steps) = written p stop nodes step ∷ written_from p stop (after p stop nodes step) steps

-- those of each step of a list, made from the plan's opening on
abbrev pub all_written : PlanView → ℕ → List Step → List (Option State)
all_written p stop steps = written_from p stop (opening_nodes p) steps

-- the greatest count of nodes, or the plan's start where none is above it
abbrev pub greatest_count : PlanView → List NaiveNode → ℕ
greatest_count p nodes = fold max p.start (map (λ n. n.moves) nodes)

-- the greatest count after the steps of a list
abbrev pub last_count : PlanView → ℕ → List Step → ℕ
last_count p stop steps = greatest_count p (run p stop (opening_nodes p) steps)

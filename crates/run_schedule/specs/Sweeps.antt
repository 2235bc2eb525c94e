-- Whole sweeps, as lists of steps.
use Rattle.std.specs.Prelude.{ℕ, ◌-◌, List, [], ◌∷◌, ◌++◌, length, map}
use Rattle.std.specs.List.{flat_map, repeat}
use Rattle.link_net.specs.Neighbours.{Neighbours, degree, numbers_below}
use Rattle.rounds_plan.specs.Plans.{PlanView}
use Rattle.unison_world.specs.declared.step.Step.{Step}
use Rattle.unison_world.specs.declared.step.Step.TheVariants.{Read, Write}

-- a turn of a node: all its slots read by rising number, and then its write
abbrev pub turn_of : Neighbours → ℕ → List Step
turn_of network u = map (λ j. Read u j) (numbers_below (degree network u)) ++ Write u ∷ []

-- a sweep: a turn of each node by rising number
abbrev pub sweep_of : Neighbours → List Step
sweep_of network = flat_map (turn_of network) (numbers_below (length network))

-- the sweeps from the plan's start to the stop, one for each round
abbrev pub sweeps_of : PlanView → ℕ → List Step
sweeps_of plan stop = repeat (stop - plan.start) (sweep_of plan.network)

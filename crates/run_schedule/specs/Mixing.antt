-- Lists of steps with refused ones among them.
use Rattle.std.specs.Prelude.{◌≡◌, ℕ, ◌≤◌, ◌<◌, false, List, [], ◌∷◌, ◌++◌, All, take, length, if◌then◌else◌}
use Rattle.link_net.specs.Neighbours.{Neighbours, degree}
use Rattle.rounds_plan.specs.Plans.{PlanView}
use Rattle.unison_world.specs.declared.step.Step.{Step}
use Rattle.unison_world.specs.declared.step.Step.TheVariants.{Read, Write}
use Rattle.unison_world.specs.Counting.{Counts, at_start, answer_of, after}
use Rattle.unison_world.specs.View.{WorldView}
use Rattle.unison_trace.specs.Histories.{is_change}

-- those of the steps that are answered Taken or Moved, in order
abbrev pub changing : Neighbours → ℕ → Counts → List Step → List Step
changing network stop c [] = []
changing network stop c (step ∷ steps) =
    if is_change (answer_of network stop c step) then step ∷ changing network stop (after network stop c step) steps
    else changing network stop (after network stop c step) steps

-- the same, from the plan's opening on
abbrev pub changing_of : PlanView → ℕ → List Step → List Step
changing_of plan stop steps = changing plan.network stop (at_start plan.network plan.start) steps

-- a step of one of the network's nodes, and where it is a read, of one of the node's slots
abbrev pub IsStepOf : Neighbours → Step → Type 0
IsStepOf network (Read u j) = (u < length network) × (j < degree network u)
IsStepOf network (Write u) = u < length network

-- a step of the network that would change nothing at these counts
pub record IsRefused (network : Neighbours) (stop : ℕ) (c : Counts) (step : Step) : Type 0 where
  pub there : IsStepOf network step
  pub idle : is_change (answer_of network stop c step) ≡ false

-- a node that has a neighbour
abbrev pub IsLinked : Neighbours → ℕ → Type 0
IsLinked network u = (u < length network) × (0 < degree network u)

-- some node has a neighbour: then some step of the network would be refused, whatever the counts
abbrev pub HasLink : Neighbours → Type 0
HasLink network = (u : ℕ) × IsLinked network u

-- how many refused steps stand before one of the list, at most
abbrev pub most_refused : ℕ
most_refused = 1000

-- these may stand before a step of the list: they are refused there, and at 0 in a hundred there is none, at a hundred there are as many as may be
pub record MayStand (network : Neighbours) (stop percent : ℕ) (c : Counts) (refused : List Step) : Type 0 where
  pub each : All (IsRefused network stop c) refused
  pub most : length refused ≤ most_refused
  pub none : percent ≡ 0 → refused ≡ []
  pub all : 100 ≤ percent → HasLink network → length refused ≡ most_refused

-- from these counts on the second list has the steps of the first in order, before each some refused ones, and nothing after the last
abbrev pub StandAmong : Neighbours → ℕ → ℕ → Counts → List Step → List Step → Type 0
StandAmong network stop percent c [] mixed = mixed ≡ []
StandAmong network stop percent c (step ∷ steps) mixed =
    (refused : List Step) × (rest : List Step)
    × (mixed ≡ refused ++ step ∷ rest) × MayStand network stop percent c refused × StandAmong network stop percent (after network stop c step) steps rest

-- the same, from the plan's opening on
abbrev pub AreAmong : PlanView → ℕ → ℕ → List Step → List Step → Type 0
AreAmong plan stop percent steps mixed = StandAmong plan.network stop percent (at_start plan.network plan.start) steps mixed

-- refused steps that may stand there were put at the end of a list, up to the limit
pub record ArePut (w : WorldView) (percent limit : ℕ) (old new : List Step) : Type 0 where
  pub put : (refused : List Step) × MayStand w.plan.network w.stop percent w.counts refused × (new ≡ take limit (old ++ refused))

-- the first list has the steps of the other among refused ones, or the front of them up to the limit; so those of its steps that change something are the other's
pub record IsMixed (plan : PlanView) (stop percent limit : ℕ) (steps mixed : List Step) : Type 0 where
  pub few : length mixed ≤ limit
  pub among : length mixed < limit → AreAmong plan stop percent steps mixed
  pub cut : (n : ℕ) × (longer : List Step) × AreAmong plan stop percent (take n steps) longer × (mixed ≡ take limit longer)
  pub front : (n : ℕ) × (changing_of plan stop mixed ≡ changing_of plan stop (take n steps))
  pub whole : length mixed < limit → changing_of plan stop mixed ≡ changing_of plan stop steps

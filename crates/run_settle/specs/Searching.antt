-- What a search for a configuration that comes again finds.
use Rattle.std.specs.Prelude.{ℕ, ◌+◌, ◌<◌, ◌≤◌, length}
use Rattle.link_net.specs.Neighbours.{Neighbours, degree, neighbour}
use Rattle.rounds_plan.specs.Plans.{PlanView}
use Rattle.rounds_walk.specs.Walking.{AreAlike}
use Rattle.run_settle.specs.declared.search.Found.{Found}
use Rattle.run_settle.specs.declared.search.Found.TheVariants.{Still, Again}
use Rattle.run_settle.specs.Outcomes.{IsStill}

-- the configuration of round m comes again in no round before this one
abbrev pub IsAway : PlanView → ℕ → ℕ → Type 0
IsAway p m end = (t : ℕ) → m < t → t < end → AreAlike p m t → ⊥

-- a round, and after how many rounds, two or more, its configuration comes again for the first time
pub record ComesAgain (p : PlanView) (m n : ℕ) : Type 0 where
  pub late : p.start ≤ m
  pub several : 2 ≤ n
  pub again : AreAlike p m (m + n)
  pub least : IsAway p m (m + n)

-- what was found holds of the plan
abbrev pub IsFound : PlanView → Found → Type 0
IsFound p (Still round) = IsStill p round
IsFound p (Again mark period) = ComesAgain p mark period

-- the last round that was looked at
abbrev pub last_of : Found → ℕ
last_of (Still round) = round + 1
last_of (Again mark period) = mark + period

-- the first round whose configuration comes again after so many rounds
pub record IsFirstOf (p : PlanView) (n r : ℕ) : Type 0 where
  pub late : p.start ≤ r
  pub again : AreAlike p r (r + n)
  pub first : (e : ℕ) → p.start ≤ e → e < r → AreAlike p e (e + n) → ⊥

-- each neighbour of a node is a node
abbrev pub LeadsInside : Neighbours → Type 0
LeadsInside network = (u j : ℕ) → j < degree network u → neighbour network u j < length network

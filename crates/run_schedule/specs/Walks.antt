-- Walks: steps that are made on a world, each of which changes something.
use Rattle.std.specs.Prelude.{◌≡◌, ℕ, ◌≤◌, ◌<◌, ◌==◌, ◌&&◌, Bool, true, false, not, List, [], ◌∷◌, ◌++◌, length, All, Option, Some, None, if◌then◌else◌}
use Rattle.link_net.specs.Neighbours.{degree}
use Rattle.rounds_plan.specs.Plans.{IsPlan}
use Rattle.unison_world.specs.declared.step.Step.{Step}
use Rattle.unison_world.specs.declared.step.Step.TheVariants.{Read, Write}
use Rattle.unison_world.specs.Counting.{moves_of, HasShape, InStep}
use Rattle.unison_world.specs.View.{WorldView, answer_in, world_after}
use Rattle.unison_trace.specs.Histories.{LeadTo, is_change}
use Rattle.run_schedule.specs.Lists.{node_of}

-- a world, the node that makes no step, if there is one, how many steps may be made, and those that were made
pub record WalkView : Type 0 where
  pub world : WorldView
  pub still : Option ℕ
  pub limit : ℕ
  pub steps : List Step

-- whether a step is not the still node's
abbrev pub is_other : Option ℕ → Step → Bool
is_other None step = true
is_other (Some node) step = not (node_of step == node)

-- whether a step is open: it is not the still node's, and would change something
abbrev pub is_open : WalkView → Step → Bool
is_open w step = is_other w.still step && is_change (answer_in w.world step)

-- the walk after a step that is made
abbrev pub with_step : WalkView → Step → WalkView
with_step w step = record { world = world_after w.world step; still = w.still; limit = w.limit; steps = w.steps ++ step ∷ [] }

-- the walk after a step, which is made where it is open
abbrev pub walk_after : WalkView → Step → WalkView
walk_after w step = if is_open w step then with_step w step else w

-- the steps lead to the world's counts, each is answered Taken or Moved, none is the still node's, and they are within the limit
pub record IsWalk (w : WalkView) : Type 0 where
  pub leads : LeadTo w.world.plan w.world.stop w.world.counts w.steps
  pub others : All (λ step. is_other w.still step ≡ true) w.steps
  pub few : length w.steps ≤ w.limit

-- what holds of every world
pub record IsSound (w : WorldView) : Type 0 where
  pub plan : IsPlan w.plan
  pub shape : HasShape w.plan.network w.counts
  pub in_step : InStep w.plan.network w.stop w.counts
  pub started : (u : ℕ) → u < length w.plan.network → w.plan.start ≤ moves_of w.counts u

-- a walk goes on from another: the steps are no fewer, and where there are no more it is the same
pub record GoesOn (old new : WalkView) : Type 0 where
  pub plan : new.world.plan ≡ old.world.plan
  pub stop : new.world.stop ≡ old.world.stop
  pub still : new.still ≡ old.still
  pub limit : new.limit ≡ old.limit
  pub longer : length old.steps ≤ length new.steps
  pub idle : length new.steps ≤ length old.steps → new ≡ old

-- no step is open
abbrev pub AtRest : WalkView → Type 0
AtRest w = (step : Step) → is_open w step ≡ false

-- no step of a node is open
pub record RestsAt (w : WalkView) (u : ℕ) : Type 0 where
  pub reads : (j : ℕ) → j < degree w.world.plan.network u → is_open w (Read u j) ≡ false
  pub write : is_open w (Write u) ≡ false

-- as many steps as may be were made, and another is open
pub record IsFull (w : WalkView) : Type 0 where
  pub full : length w.steps ≡ w.limit
  pub more : (step : Step) × (is_open w step ≡ true)

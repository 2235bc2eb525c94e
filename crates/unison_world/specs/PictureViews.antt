-- The world that nodes show, of a plan and a stop.
use Rattle.std.specs.Prelude.{ℕ, List}
use Rattle.rounds_plan.specs.Plans.{PlanView}
use Rattle.unison_world.specs.declared.node.Node.{Node}
use Rattle.unison_world.specs.Pictures.{counts_of}
use Rattle.unison_world.specs.View.{WorldView}

-- the world of these nodes
abbrev pub view_of : PlanView → ℕ → List Node → WorldView
view_of plan stop nodes = record { plan = plan; stop = stop; counts = counts_of nodes }

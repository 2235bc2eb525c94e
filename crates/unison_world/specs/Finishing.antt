-- Finishing a world.
use Rattle.std.specs.Prelude.{◌≡◌, ℕ, ◌<◌, Result, Ok, Err, length, ⊤}
use Rattle.rounds_plan.specs.Configs.{Configuration}
use Rattle.rounds_plan.specs.Plans.{PlanView}
use Rattle.rounds_plan.specs.Lockstep.{lockstep_config}
use Rattle.unison_world.specs.declared.fault.FinishFault.{FinishFault}
use Rattle.unison_world.specs.declared.fault.FinishFault.TheVariants.{Foreign, Unfinished, Memory}
use Rattle.unison_world.specs.Counting.{moves_of}
use Rattle.unison_world.specs.View.{WorldView}

-- the world has this plan and this stop
abbrev pub IsOf : WorldView → PlanView → ℕ → Type 0
IsOf w plan stop = (w.plan ≡ plan) × (w.stop ≡ stop)

-- all nodes below this one stand at the stop
abbrev pub AtStopBelow : WorldView → ℕ → Type 0
AtStopBelow w n = (u : ℕ) → u < n → moves_of w.counts u ≡ w.stop

-- the answer: foreign, else the least node below the stop, else the lockstep configuration of the stop
abbrev pub IsFinish : WorldView → PlanView → ℕ → Result Configuration FinishFault → Type 0
IsFinish w plan stop (Ok config) = IsOf w plan stop × AtStopBelow w (length w.plan.network) × (config ≡ lockstep_config plan stop)
IsFinish w plan stop (Err Foreign) = IsOf w plan stop → ⊥
IsFinish w plan stop (Err (Unfinished node moves)) =
    IsOf w plan stop × (node < length w.plan.network) × (moves ≡ moves_of w.counts node) × (moves < w.stop) × AtStopBelow w node
IsFinish w plan stop (Err Memory) = ⊤

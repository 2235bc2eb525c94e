-- A plan that goes on from a configuration.
use Rattle.std.specs.Prelude.{◌≡◌, ℕ, ◌<◌, ◌≤◌, ◌==◌, length, Result, Ok, Err, if◌then◌else◌}
use Rattle.rounds_plan.specs.declared.fault.ResumeFault.{ResumeFault}
use Rattle.rounds_plan.specs.declared.fault.ResumeFault.TheVariants.{Foreign}
use Rattle.rounds_plan.specs.Configs.{Configuration}
use Rattle.rounds_plan.specs.Plans.{PlanView}
use Rattle.rounds_plan.specs.Lockstep.{lockstep, lockstep_states}

-- the plan with the configuration's states as its opening and the configuration's round as its start
abbrev pub from_config : PlanView → Configuration → PlanView
from_config p c = record { program = p.program; network = p.network; phase = p.phase; opening = c.states; start = c.rounds }

-- the plan that goes on from a configuration of as many nodes and fields as the plan has
abbrev pub resumed : PlanView → Configuration → Result PlanView ResumeFault
resumed p c =
    if length c.states == length p.network
    then (if c.fields == length p.program.fields then Ok (from_config p c) else Err Foreign)
    else Err Foreign

-- where the states are those that the old plan has at the configuration's round, from its start on, the new plan has the old one's states at each node after every round from there on
abbrev pub GoesOnAs : PlanView → Configuration → PlanView → Type 0
GoesOnAs old c new =
    old.start ≤ c.rounds → c.states ≡ lockstep_states old c.rounds (length old.network)
    → (t u : ℕ) → c.rounds ≤ t → u < length old.network → lockstep new t u ≡ lockstep old t u

-- What rounds begin with: a program on rows of any size, and how the nodes open.
use Rattle.std.specs.Prelude.{◌≡◌, ◌≤◌, ◌==◌, ℕ, Bool, not, List, length, drop, All, Result, Ok, Err, nat_lt, if◌then◌else◌}
use Rattle.std.specs.List.{list_any}
use Rattle.rule_check.specs.declared.state.State.{State}
use Rattle.rule_check.specs.Value.{Rules}
use Rattle.link_net.specs.Neighbours.{Neighbours, AreRows}
use Rattle.link_net.specs.Simple.{IsSimple}
use Rattle.rounds_plan.specs.Configs.{IsPlain, most_rounds}
use Rattle.rounds_plan.specs.Plans.{PlanView}
use Rattle.rounds_plan.specs.declared.fault.StartFault.{StartFault}
use Rattle.rounds_plan.specs.declared.fault.StartFault.TheVariants.{NoNodes, StateCount, NotPlain, TooManyRounds}
use Rattle.rounds_plan.specs.declared.parts.Opening.{Opening}

-- what holds of every start
pub record IsStart (p : PlanView) : Type 0 where
  pub network : AreRows p.network
  pub some : 1 ≤ length p.network
  pub fields : length p.program.fields ≤ 8
  pub opening : length p.opening ≡ length p.network
  pub plain : All (IsPlain (length p.program.fields)) p.opening
  pub start : p.start ≤ most_rounds

-- what holds of every plan on a simple network, whatever its size
pub record IsSimplePlan (p : PlanView) : Type 0 where
  pub network : IsSimple p.network
  pub some : 1 ≤ length p.network
  pub fields : length p.program.fields ≤ 8
  pub opening : length p.opening ≡ length p.network
  pub plain : All (IsPlain (length p.program.fields)) p.opening
  pub start : p.start ≤ most_rounds

-- some word after the fields is not 0
abbrev pub is_stray : ℕ → State → Bool
is_stray fields state = list_any (λ w. not (w == 0)) (drop fields state.words)

-- a program on rows whose nodes open like this
abbrev pub opened_by : Rules → Neighbours → Opening → PlanView
opened_by program network opening = record { program = program; network = network; phase = opening.phase; opening = opening.states.now; start = opening.round }

-- the start of a program on rows whose nodes have these states at this round, with phase 0, or the first fault
abbrev pub start_of : Rules → Neighbours → List State → ℕ → Result PlanView StartFault
start_of program network opening start =
    if length network == 0 then Err NoNodes
    else if not (length opening == length network) then Err StateCount
    else if list_any (is_stray (length program.fields)) opening then Err NotPlain
    else if nat_lt most_rounds start then Err TooManyRounds
    else Ok (record { program = program; network = network; phase = 0; opening = opening; start = start })

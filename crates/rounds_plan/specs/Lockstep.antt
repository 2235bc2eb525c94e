-- The textbook synchronous round: all nodes move at once, each by its own state and its neighbours' states before.
use Rattle.std.specs.Prelude.{◌≡◌, ℕ, zero, suc, ◌+◌, ◌-◌, ◌≤◌, List, map, length, slice_index_or, nat_lt, if◌then◌else◌, Result, Ok, Err}
use Rattle.std.specs.List.{range_with_len}
use Rattle.std.proofs.Common.{arith, ap, ◌∙◌}
use Rattle.rule_check.specs.declared.state.State.{State}
pub use Rattle.rounds_plan.specs.Rounds.{near_at, nears_in, round_from}
use Rattle.rounds_plan.specs.Configs.{Configuration, blank, most_rounds}
use Rattle.rounds_plan.specs.declared.fault.RoundFault.{RoundFault}
use Rattle.rounds_plan.specs.declared.fault.RoundFault.TheVariants.{TooManyRounds, RoundsBelowStart}
use Rattle.rounds_plan.specs.Plans.{PlanView}

-- the state of node u so many rounds after the start
unfoldable pub after : PlanView → ℕ → ℕ → State
after p zero u = slice_index_or p.opening u blank
after p (suc k) u = round_from p.program p.network (p.start + k) (after p k) u

-- the state of node u after round t, counted from round 0
unfoldable pub lockstep : PlanView → ℕ → ℕ → State
lockstep p t u = after p (t - p.start) u

-- at the start it is the initial state
pub lockstep-start : (p : PlanView) (u : ℕ) → lockstep p p.start u ≡ slice_index_or p.opening u blank
unfolding lockstep after
lockstep-start p u = let e : p.start - p.start ≡ 0 = omega arith in ap (λ k. after p k u) e

-- and one round later all nodes have moved at once
pub lockstep-more : (p : PlanView) (t u : ℕ) → p.start ≤ t → lockstep p (t + 1) u ≡ round_from p.program p.network t (lockstep p t) u
unfolding lockstep after
lockstep-more p t u h =
    let e : t + 1 - p.start ≡ suc (t - p.start) = omega arith in
    let back : p.start + (t - p.start) ≡ t = omega arith in
    ap (λ k. after p k u) e ∙ ap (λ r. round_from p.program p.network r (after p (t - p.start)) u) back

-- the state of each node, where the states stand by rising number of the node
abbrev pub state_in : List State → ℕ → State
state_in states u = slice_index_or states u blank

-- the states of all nodes after round t
abbrev pub lockstep_states : PlanView → ℕ → ℕ → List State
lockstep_states p t nodes = map (lockstep p t) (range_with_len 0 nodes)

-- the configuration of round t
abbrev pub lockstep_config : PlanView → ℕ → Configuration
lockstep_config p t = record { rounds = t; fields = length p.program.fields; states = lockstep_states p t (length p.network) }

-- the configuration that is asked for, or why there is none
abbrev pub rounds_of : PlanView → ℕ → Result Configuration RoundFault
rounds_of p t =
    if nat_lt most_rounds t then Err TooManyRounds
    else if nat_lt t p.start then Err RoundsBelowStart
    else Ok (lockstep_config p t)

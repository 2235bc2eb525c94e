-- What is told of rounds, round by round.
use Rattle.std.specs.Prelude.{ℕ, ◌+◌, List, length}
use Rattle.std.specs.List.{flat_map}
use Rattle.rule_check.specs.declared.state.State.{State}
use Rattle.rounds_plan.specs.Configs.{Configuration}
use Rattle.rounds_plan.specs.Lockstep.{lockstep_config}
use Rattle.rounds_plan.specs.Plans.{PlanView}
use Rattle.app_calls.specs.Words.{words_in}
use Rattle.app_calls.specs.declared.large.telling.Telling.{Telling}
use Rattle.app_calls.specs.declared.large.telling.Telling.TheVariants.{Words, Counts}
use Rattle.app_calls.specs.Counted.{counts_in}

-- what is told of states of so many fields
abbrev pub told_in : Telling → ℕ → List State → List ℕ
told_in Words fields states = words_in fields states
told_in (Counts field values) fields states = counts_in field values.now states

-- what is told of a configuration
abbrev pub told_of : Telling → Configuration → List ℕ
told_of telling c = told_in telling c.fields c.states

-- what is told after each of these rounds of a plan, round by round
abbrev pub told_at : Telling → PlanView → List ℕ → List ℕ
told_at telling p rounds = flat_map (λ t. told_of telling (lockstep_config p t)) rounds

-- how many numbers are told of a round whose nodes have so many words
abbrev pub told_count : Telling → ℕ → ℕ
told_count Words words = words
told_count (Counts field values) words = length values.now + 1

-- The words of configurations, and what is put in front.
use Rattle.std.specs.Prelude.{ℕ, ◌+◌, List, [], ◌∷◌, ◌++◌, drop, length, map, nat_lt, take, Option, Some, None, if◌then◌else◌}
use Rattle.std.specs.List.{flat_map}
use Rattle.std.specs.Option.{option_or}
use Rattle.rule_check.specs.declared.state.State.{State}
use Rattle.link_net.specs.Neighbours.{numbers_below}
use Rattle.rounds_plan.specs.declared.fault.RoundFault.TheVariants.{TooManyRounds, RoundsBelowStart}
use Rattle.rounds_plan.specs.Configs.{Configuration, most_rounds}
use Rattle.rounds_plan.specs.Lockstep.{lockstep, lockstep_config}
use Rattle.rounds_plan.specs.Plans.{PlanView}
use Rattle.unison_world.specs.Counting.{Counts, moves_of}
use Rattle.app_calls.specs.declared.fault.Fault.{Fault}
use Rattle.app_calls.specs.declared.fault.Fault.TheVariants.{NotRising, Round}

-- what stood there, with these put in front in place of as many
abbrev pub with_front : List ℕ → List ℕ → List ℕ
with_front front old = front ++ drop (length front) old

-- the words of so many fields of the states, state by state
abbrev pub words_in : ℕ → List State → List ℕ
words_in fields states = flat_map (λ state. take fields state.words) states

-- the words of all fields of all nodes, node by node
abbrev pub words_of : Configuration → List ℕ
words_of c = words_in c.fields c.states

-- the words after each of these rounds of a plan, round by round
abbrev pub words_at : PlanView → List ℕ → List ℕ
words_at p rounds = flat_map (λ t. words_of (lockstep_config p t)) rounds

-- the words that a node shows: those of the lockstep state of its count
abbrev pub shown_words : PlanView → Counts → ℕ → List ℕ
shown_words p counts u = take (length p.program.fields) (lockstep p (moves_of counts u) u).words

-- the words that the nodes show, node by node
abbrev pub words_after : PlanView → Counts → List ℕ
words_after p counts = flat_map (shown_words p counts) (numbers_below (length p.network))

-- how often each node has moved, node by node
abbrev pub counts_in : PlanView → Counts → List ℕ
counts_in p counts = map (moves_of counts) (numbers_below (length p.network))

-- why a round of a list is refused, where it may not lie below `least`: the plan does not have it, or it is not above the one before it
abbrev pub entry_fault : PlanView → ℕ → ℕ → Option Fault
entry_fault p least t =
    if nat_lt most_rounds t then Some (Round TooManyRounds)
    else if nat_lt t p.start then Some (Round RoundsBelowStart)
    else if nat_lt t least then Some NotRising
    else None

-- the first fault of a list of rounds of a plan, the first of which may not lie below `least`
abbrev pub list_fault : PlanView → ℕ → List ℕ → Option Fault
list_fault p least [] = None
list_fault p least (t ∷ rounds) = option_or (entry_fault p least t) (list_fault p (t + 1) rounds)

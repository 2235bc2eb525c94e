-- One round: what a node's next state is made of.
use Rattle.std.specs.Prelude.{ℕ, ◌≡◌, ◌≤◌, List, map, slice_index}
use Rattle.rule_check.specs.declared.state.State.{State}
use Rattle.rule_check.specs.declared.state.Near.{Near}
use Rattle.rule_check.specs.Value.{Rules, next_state}
use Rattle.link_net.specs.Neighbours.{Neighbours, row}

-- a neighbour as a rule sees it: its number, the weight of the link to it, and the state that `at` gives it
abbrev pub near_at : (ℕ → State) → ℕ × ℕ → Near
near_at at a = record { id = a.0; weight = a.1; state = at a.0 }

-- the neighbours of a node by rising number, as a rule sees them
abbrev pub nears_in : Neighbours → (ℕ → State) → ℕ → List Near
nears_in network at u = map (near_at at) (row network u)

-- the state of a node one round after the states that `at` gives, in the step from this round
abbrev pub round_from : Rules → Neighbours → ℕ → (ℕ → State) → ℕ → State
round_from rules network round at u = next_state rules round u (at u) (nears_in network at u)

-- the words after the fields are 0
abbrev pub IsPlain : ℕ → State → Type 0
IsPlain fields state = (k : ℕ) → fields ≤ k → slice_index state.words k ≡ 0

-- States as the words of their fields, node by node: the word of field k of node u stands at u times the number of fields, and k more.
use Rattle.std.specs.Prelude.{ℕ, ◌-◌, ◌*◌, ◌++◌, List, length, map, take, drop, replicate}
use Rattle.std.specs.List.{flat_map}
use Rattle.rule_check.specs.declared.state.State.{State}
use Rattle.link_net.specs.Neighbours.{numbers_below}

-- the state that has these words in front, and 0 after them
abbrev pub state_of : List ℕ → State
state_of words = record { words = words ++ replicate (8 - length words) 0 }

-- the words of the fields of node u
abbrev pub node_words : ℕ → List ℕ → ℕ → List ℕ
node_words fields words u = take fields (drop (u * fields) words)

-- the states of so many nodes
abbrev pub states_of : ℕ → ℕ → List ℕ → List State
states_of fields nodes words = map (λ u. state_of (node_words fields words u)) (numbers_below nodes)

-- the words of so many fields of the states, state by state
abbrev pub words_in : ℕ → List State → List ℕ
words_in fields states = flat_map (λ state. take fields state.words) states

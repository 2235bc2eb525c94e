-- A configuration: the states of all nodes after a round.
use Rattle.std.specs.Prelude.{ℕ, ◌≤◌, List, length, All, replicate, slice_index, slice_index_or}
use Rattle.rule_check.specs.declared.state.State.{State}
use Rattle.link_net.specs.Limits.{most_rows}
pub use Rattle.rounds_plan.specs.Rounds.{IsPlain}

-- the round, how many fields the program has, and the states by rising number of the node
pub record Configuration : Type 0 where
  pub rounds : ℕ
  pub fields : ℕ
  pub states : List State

-- the greatest round
abbrev pub most_rounds : ℕ
most_rounds = 1000000000

-- a state that stands nowhere
abbrev pub blank : State
blank = record { words = replicate 8 0 }

-- a configuration that some plan may have
pub record IsConfiguration (c : Configuration) : Type 0 where
  pub round : c.rounds ≤ most_rounds
  pub fields : c.fields ≤ 8
  pub some : 1 ≤ length c.states
  pub few : length c.states ≤ 65536
  pub plain : All (IsPlain c.fields) c.states

-- the states after a round of a program on a network of any size that rows can have
pub record AreRoundStates (c : Configuration) : Type 0 where
  pub round : c.rounds ≤ most_rounds
  pub fields : c.fields ≤ 8
  pub few : length c.states ≤ most_rows
  pub plain : All (IsPlain c.fields) c.states

-- the word of a node's field
abbrev pub word_at : List State → ℕ → ℕ → ℕ
word_at states u k = slice_index (slice_index_or states u blank).words k

-- Nodes and neighbours within the limits of a run.
use Rattle.std.specs.Prelude.{ℕ, ◌≡◌, ◌≤◌, All, length, slice_index}
use Rattle.rule_check.specs.declared.state.State.{State}
use Rattle.rule_check.specs.declared.state.Near.{Near}
use Rattle.rule_check.specs.Table.{M}
use Rattle.rule_check.specs.Value.{Here, names_of}
use Rattle.rule_ranges.specs.States.{IsStateWithin}
use Rattle.rule_cuts.specs.declared.limits.Limits.{Limits}

-- what a node holds are values
abbrev pub AreValues : State → Type 0
AreValues state = (k : ℕ) → slice_index state.words k ≤ M

-- what a node holds are values that lie in the ranges of the fields
pub record HoldsWithin (limits : Limits) (state : State) : Type 0 where
  pub values : AreValues state
  pub ranges : IsStateWithin (length limits.program.now.fields) limits.fields state

-- a neighbour is within the limits
pub record IsNearWithin (limits : Limits) (near : Near) : Type 0 where
  pub id : near.id ≤ limits.bounds.id
  pub weight : near.weight ≤ limits.bounds.weight
  pub words : HoldsWithin limits near.state

-- a node of the program is within the limits, and its neighbours are
pub record IsHereWithin (limits : Limits) (here : Here) : Type 0 where
  pub names : here.names ≡ names_of limits.program.now
  pub round : here.round ≤ limits.bounds.round
  pub id : here.id ≤ limits.bounds.id
  pub degree : here.degree ≤ limits.bounds.degree
  pub few : length here.nears ≤ limits.bounds.degree
  pub words : HoldsWithin limits here.own
  pub nears : All (IsNearWithin limits) here.nears

-- States whose words lie in ranges, and what a program makes of them.
use Rattle.std.specs.Prelude.{ℕ, ◌≡◌, ◌<◌, ◌≤◌, All, List, length, slice_index, slice_index_or}
use Rattle.rule_check.specs.declared.state.State.{State}
use Rattle.rule_check.specs.declared.state.Near.{Near}
use Rattle.rule_check.specs.Value.{Rules, next_state}
use Rattle.rule_ranges.specs.declared.bounds.Bounds.{Bounds}
use Rattle.rule_ranges.specs.declared.range.Range.{Range}
use Rattle.rule_ranges.specs.Ranges.{IsWithin}

-- a state of eight words, each of which lies in that of eight ranges which has its place, and of which those after so many fields are 0
pub record IsStateWithin (fields : ℕ) (ranges : List Range) (state : State) : Type 0 where
  pub long : length state.words ≡ 8
  pub plain : (k : ℕ) → fields ≤ k → slice_index state.words k ≡ 0
  pub within : (k : ℕ) (d : Range) → k < 8 → IsWithin (slice_index_or ranges k d) (slice_index state.words k)

-- a neighbour within the bounds whose state lies in the ranges
pub record IsNearWithin (bounds : Bounds) (fields : ℕ) (ranges : List Range) (near : Near) : Type 0 where
  pub number : near.id ≤ bounds.id
  pub weight : near.weight ≤ bounds.weight
  pub state : IsStateWithin fields ranges near.state

-- a node within the bounds, in the step from a round, whose state and whose neighbours' states lie in the ranges
pub record IsNodeWithin (bounds : Bounds) (fields : ℕ) (ranges : List Range) (round id : ℕ) (own : State) (nears : List Near) : Type 0 where
  pub time : round ≤ bounds.round
  pub number : id ≤ bounds.id
  pub links : length nears ≤ bounds.degree
  pub state : IsStateWithin fields ranges own
  pub each : All (IsNearWithin bounds fields ranges) nears

-- at each node within the bounds, states that lie in the first ranges lead to a state that lies in the next ones
abbrev pub LeadTo : Rules → Bounds → List Range → List Range → Type 0
LeadTo rules bounds ranges next =
    (round id : ℕ) (own : State) (nears : List Near) → IsNodeWithin bounds (length rules.fields) ranges round id own nears
    → IsStateWithin (length rules.fields) next (next_state rules round id own nears)

-- states that lie in the ranges lead to states that lie there, so states that lie there at the start do in each round
abbrev pub AreClosed : Rules → Bounds → List Range → Type 0
AreClosed rules bounds ranges = LeadTo rules bounds ranges ranges

-- of two lists of eight ranges, each value of one of the first lies in that of the second
abbrev pub AreWider : List Range → List Range → Type 0
AreWider narrow wide = (k v : ℕ) (d e : Range) → k < 8 → IsWithin (slice_index_or narrow k d) v → IsWithin (slice_index_or wide k e) v

-- The order in which neighbours are listed.
use Rattle.std.specs.Prelude.{ℕ, ◌≡◌, List}
use Rattle.std.specs.List.Sorted.{IsPermutation}
use Rattle.rule_check.specs.declared.state.State.{State}
use Rattle.rule_check.specs.declared.state.Near.{Near}
use Rattle.rule_check.specs.Value.{Rules, next_state}

-- Neighbours listed in another order lead to the same next state.
abbrev pub OrderPlaysNoPart : Type 0
OrderPlaysNoPart = (rules : Rules) (round id : ℕ) (own : State) (nears others : List Near) → IsPermutation nears others → next_state rules round id own nears ≡ next_state rules round id own others

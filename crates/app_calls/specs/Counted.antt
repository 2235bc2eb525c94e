-- How many nodes have each of some values in a field.
use Rattle.std.specs.Prelude.{ℕ, ◌==◌, Bool, not, List, [], ◌∷◌, ◌++◌, count_by, map}
use Rattle.std.specs.List.{list_any}
use Rattle.rule_check.specs.declared.state.State.{State}
use Rattle.rounds_walk.specs.Columns.{column}

-- the value is one of these
abbrev pub is_in : List ℕ → ℕ → Bool
is_in values value = list_any (λ v. value == v) values

-- for each of the values how many of the numbers are it, and last how many of them are none of the values
abbrev pub counted : List ℕ → List ℕ → List ℕ
counted values numbers = map (λ v. count_by (λ n. n == v) numbers) values ++ count_by (λ n. not (is_in values n)) numbers ∷ []

-- for each of the values how many of the states have it in the field, and last how many have none of them
abbrev pub counts_in : ℕ → List ℕ → List State → List ℕ
counts_in field values states = counted values (column field states)

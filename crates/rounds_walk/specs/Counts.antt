-- What there is to count in the states of many nodes.
use Rattle.std.specs.Prelude.{◌≡◌, ◌≤◌, ◌==◌, ℕ, Bool, not, List, map, All, Contains, count_by, slice_index, Option, IfSome, unwrap_or}
use Rattle.std.specs.List.Sorted.{IsStrictlySortedBy}
use Rattle.std.specs.Ordering.{nat_cmp}
use Rattle.std.specs.Str.{bytes_eq}
use Rattle.rule_check.specs.declared.state.State.{State}

-- a node's two states differ
abbrev pub has_moved : State × State → Bool
has_moved p = not (bytes_eq p.0.words p.1.words)

-- the state has this value in the field; a field that states do not have is 0
abbrev pub has_value : ℕ → ℕ → State → Bool
has_value field value state = slice_index state.words field == value

-- for each value how many of the states have it, and none where no state has it
pub record IsTally (field : ℕ) (states : List State) (counts : ℕ → Option ℕ) : Type 0 where
  pub count : (value : ℕ) → unwrap_or (counts value) 0 ≡ count_by (has_value field value) states
  pub some : (value : ℕ) → IfSome (counts value) (λ n. 1 ≤ n)

-- values by rising number, each with the number of states that have it, which is not 0; and each value that a state has is among them
pub record AreCounts (field : ℕ) (states : List State) (counts : List (ℕ × ℕ)) : Type 0 where
  pub rising : IsStrictlySortedBy nat_cmp (map (λ c. c.0) counts)
  pub each : All (λ c. c.1 ≡ count_by (has_value field c.0) states) counts
  pub some : All (λ c. 1 ≤ c.1) counts
  pub all : All (λ s. Contains (map (λ c. c.0) counts) (slice_index s.words field)) states

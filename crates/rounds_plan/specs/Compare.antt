-- Where two configurations differ.
use Rattle.std.specs.Prelude.{◌≡◌, ◌≢◌, ℕ, ◌<◌, List, length}
use Rattle.rule_check.specs.declared.state.State.{State}
use Rattle.rounds_plan.specs.declared.difference.Difference.{Difference}
use Rattle.rounds_plan.specs.Configs.{word_at}

-- the nodes below this one have equal values in these fields
abbrev pub AgreeBelow : ℕ → ℕ → List State → List State → Type 0
AgreeBelow node fields left right = (u k : ℕ) → u < node → k < fields → word_at left u k ≡ word_at right u k

-- all values of these fields are equal
abbrev pub Agree : ℕ → List State → List State → Type 0
Agree fields left right = AgreeBelow (length left) fields left right

-- the first node, and in it the first field, whose values differ, with both values
pub record IsFirstDifference (fields : ℕ) (left right : List State) (d : Difference) : Type 0 where
  pub node : d.node < length left
  pub field : d.field < fields
  pub left_value : d.left ≡ word_at left d.node d.field
  pub right_value : d.right ≡ word_at right d.node d.field
  pub differ : d.left ≢ d.right
  pub nodes_before : AgreeBelow d.node fields left right
  pub fields_before : (k : ℕ) → k < d.field → word_at left d.node k ≡ word_at right d.node k

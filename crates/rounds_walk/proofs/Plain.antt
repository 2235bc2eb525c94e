-- States with no value after their fields stay so where a value is put into a field.
use Rattle.std.proofs.Common.{ℕ, ◌<◌, List, get_or, All, arith, ◌∙◌, ◌≢◌, Some, map}
use Rattle.std.proofs.lemmas.List.{get_or-set_other}
use Rattle.std.proofs.lemmas.List.Elements.{All-map}
use Rattle.rule_check.specs.declared.state.State.{State}
use Rattle.rounds_plan.specs.Configs.{IsPlain}
use Rattle.rounds_plan.specs.Opening.{with_value}

-- a value in a field leaves what stands after the fields
pub plain_with : (fields field value : ℕ) (state : State) → field < fields → IsPlain fields state → IsPlain fields (with_value field (Some value) state)
plain_with fields field value state low plain k past =
    let apart : k ≢ field = omega arith in
    get_or-set_other state.words field k value 0 apart ∙ plain k past

-- and so in each of the states
pub all_plain_with : (fields field value : ℕ) (states : List State) → field < fields → All (IsPlain fields) states → All (IsPlain fields) (map (with_value field (Some value)) states)
all_plain_with fields field value states low plain =
    All-map (IsPlain fields) (with_value field (Some value)) states
    (λ u d inside. plain_with fields field value (get_or states u d) low (plain u d inside))

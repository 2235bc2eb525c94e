-- What holds of `set` where it has no fault.
use Rattle.std.proofs.Common.{nat_lt, length, ◌≡◌, ℕ, Bool, true, false, List, Option, Some, None, refl, if◌then◌else◌, not}
use Rattle.std.specs.List.{list_any}
use Rattle.rule_check.specs.WellFormed.{is_among}
use Rattle.link_net.specs.declared.field_set.FieldSet.{FieldSet}
use Rattle.rule_check.specs.Value.{Rules, names_of}
use Rattle.rule_check.specs.WellFormed.{first_fault, has_twice}
use Rattle.rule_check.specs.declared.fault.CheckFault.TheVariants.{TooManyFields, FieldTwice}
use Rattle.rounds_plan.specs.Plans.{set_fault, has_bad_node, has_bad_value}
use Rattle.rounds_plan.specs.declared.fault.PlanFault.TheVariants.{UnknownField, BadNode, BadValue}

-- what holds where `set` has no fault
pub record IsFaultless (names : List (List ℕ)) (nodes : ℕ) (sets : List FieldSet) : Type 0 where
  pub known : list_any (λ set. not (is_among names set.name)) sets ≡ false
  pub nodes_fit : list_any (has_bad_node nodes) sets ≡ false
  pub values_fit : list_any has_bad_value sets ≡ false

passes : {F : Type 0} (b : Bool) (f : F) (rest : Option F) → (if b then Some f else rest) ≡ None → (b ≡ false) × (rest ≡ None)
passes true f rest h = cc
passes false f rest h = (refl, h)

pub faultless : (names : List (List ℕ)) (nodes : ℕ) (sets : List FieldSet) → set_fault names nodes sets ≡ None → IsFaultless names nodes sets
faultless names nodes sets h =
    let a = passes (list_any (λ set. not (is_among names set.name)) sets) UnknownField _ h in
    let b = passes (list_any (has_bad_node nodes) sets) BadNode _ a.1 in
    let c = passes (list_any has_bad_value sets) BadValue _ b.1 in
    record { known = a.0; nodes_fit = b.0; values_fit = c.0 }

-- in a program without a fault no name stands twice
pub names_differ : (rules : Rules) → first_fault rules ≡ None → has_twice (names_of rules) ≡ false
names_differ rules h =
    let few = passes (nat_lt 8 (length rules.fields)) TooManyFields _ h in
    (passes (has_twice (names_of rules)) FieldTwice _ few.1).0

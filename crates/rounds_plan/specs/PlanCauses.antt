-- Why a program and a network file make no plan, with the entries of `set` at fault. Keys are counted from 0 by rising bytes,
-- entries from 0 in the file's order.
use Rattle.std.specs.Prelude.{ℕ, ℤ, ◌<◌, ◌≡◌, Bool, not, List, length, Option, Some, IsSome, IsSomeAnd, slice_get}
use Rattle.std.specs.List.{position_from}
use Rattle.rule_check.specs.Value.{Rules, names_of}
use Rattle.rule_check.specs.WellFormed.{is_among}
use Rattle.link_net.specs.declared.field_set.FieldSet.{FieldSet}
use Rattle.link_net.specs.Reading.{Description}
use Rattle.rounds_plan.specs.declared.fault.PlanFault.{PlanFault}
use Rattle.rounds_plan.specs.declared.fault.PlanFault.TheVariants as fault
use Rattle.rounds_plan.specs.declared.plan_cause.PlanCause.{PlanCause}
use Rattle.rounds_plan.specs.declared.plan_cause.PlanCause.TheVariants.{UnknownField, BadNode, BadValue, SetTwice}
use Rattle.rounds_plan.specs.Plans.{is_below, nodes_in, has_bad_node, has_bad_value, sets_twice}

-- the fault of which this is a cause
abbrev pub plan_fault_of : PlanCause → PlanFault
plan_fault_of (UnknownField key) = fault.UnknownField
plan_fault_of (BadNode key entry) = fault.BadNode
plan_fault_of (BadValue key entry) = fault.BadValue
plan_fault_of (SetTwice key entry earlier) = fault.SetTwice

-- the place of the first element that passes
abbrev pub first_place : {X : Type 0} → (X → Bool) → List X → Option ℕ
first_place test xs = position_from test 0 xs

-- the entry is of a node, and an earlier one of the same
abbrev pub IsNodeRepeat : List (ℤ × ℤ) → ℕ → ℕ → Type 0
IsNodeRepeat pairs entry earlier = (earlier < entry) × IsSome (slice_get (nodes_in pairs) entry) × (slice_get (nodes_in pairs) earlier ≡ slice_get (nodes_in pairs) entry)

-- What is named is so, for these fields and this number of nodes. The first key that is no field. The first key with a bad node or
-- value, and the first such entry there. The first key whose list has a node twice, and two such entries.
abbrev pub IsSetCause : List (List ℕ) → ℕ → List FieldSet → PlanCause → Type 0
IsSetCause names nodes sets (UnknownField key) = first_place (λ set. not (is_among names set.name)) sets ≡ Some key
IsSetCause names nodes sets (BadNode key entry) =
    (first_place (has_bad_node nodes) sets ≡ Some key) × IsSomeAnd (slice_get sets key) (λ set. first_place (λ p. not (is_below nodes p.0)) set.pairs ≡ Some entry)
IsSetCause names nodes sets (BadValue key entry) =
    (first_place has_bad_value sets ≡ Some key) × IsSomeAnd (slice_get sets key) (λ set. first_place (λ p. not (is_below 4294967296 p.1)) set.pairs ≡ Some entry)
IsSetCause names nodes sets (SetTwice key entry earlier) =
    (first_place sets_twice sets ≡ Some key) × IsSomeAnd (slice_get sets key) (λ set. IsNodeRepeat set.pairs entry earlier)

-- the same of a program and a described network
abbrev pub IsPlanCause : Rules → Description → PlanCause → Type 0
IsPlanCause program d cause = IsSetCause (names_of program) (length d.network) d.sets cause

use Rattle.std.proofs.Common.{◌≡◌, not, drop}
use Rattle.std.specs.List.{position_from}
use Rattle.rule_check.specs.Value.{names_of}
use Rattle.rule_check.specs.WellFormed.{is_among}
use Rattle.rounds_plan.specs.PlanCauses.{first_place}
use Rattle.rounds_plan.proofs.plan_cause.unknown_field.Given as goal

abbrev pub invariant-loop-key : goal.invariant-loop-key
invariant-loop-key l = position_from (λ set. not (is_among (names_of l.program) set.name)) l.key (drop l.key l.sets) ≡ first_place (λ set. not (is_among (names_of l.program) set.name)) l.sets

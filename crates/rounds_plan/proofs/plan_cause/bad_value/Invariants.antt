use Rattle.std.proofs.Common.{◌≡◌, drop}
use Rattle.std.specs.List.{position_from}
use Rattle.rounds_plan.specs.Plans.{has_bad_value}
use Rattle.rounds_plan.specs.PlanCauses.{first_place}
use Rattle.rounds_plan.proofs.plan_cause.bad_value.Given as goal

abbrev pub invariant-loop-key : goal.invariant-loop-key
invariant-loop-key l = position_from (has_bad_value) l.key (drop l.key l.sets) ≡ first_place (has_bad_value) l.sets

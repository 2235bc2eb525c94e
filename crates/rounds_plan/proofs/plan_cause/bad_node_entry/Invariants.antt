use Rattle.std.proofs.Common.{◌≡◌, not, drop}
use Rattle.std.specs.List.{position_from}
use Rattle.rounds_plan.specs.Plans.{is_below}
use Rattle.rounds_plan.specs.PlanCauses.{first_place}
use Rattle.rounds_plan.proofs.plan_cause.bad_node_entry.Given as goal

abbrev pub invariant-loop-entry : goal.invariant-loop-entry
invariant-loop-entry l = position_from (λ p. not (is_below l.nodes p.0)) l.entry (drop l.entry l.pairs) ≡ first_place (λ p. not (is_below l.nodes p.0)) l.pairs

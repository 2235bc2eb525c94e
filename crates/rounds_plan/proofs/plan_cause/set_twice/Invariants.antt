use Rattle.std.proofs.Common.{◌≡◌, false, drop}
use Rattle.std.specs.List.{list_any, position_from}
use Rattle.rounds_plan.specs.Plans.{has_bad_node, sets_twice}
use Rattle.rounds_plan.specs.PlanCauses.{first_place}
use Rattle.rounds_plan.proofs.plan_cause.set_twice.Given as goal

abbrev pub invariant-loop-key : goal.invariant-loop-key
invariant-loop-key l = record {
  nodes : list_any (has_bad_node l.nodes) (drop l.key l.sets) ≡ false;
  left : position_from sets_twice l.key (drop l.key l.sets) ≡ first_place sets_twice l.sets;
}

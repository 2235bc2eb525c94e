use Rattle.std.proofs.Common.{◌≡◌, false, drop}
use Rattle.std.specs.List.{list_any}
use Rattle.rounds_plan.specs.Plans.{has_bad_node, sets_twice}
use Rattle.rounds_plan.proofs.opening.sets_node_twice.Given as goal

abbrev pub invariant-loop-set : goal.invariant-loop-set
invariant-loop-set l = record {
  nodes : list_any (has_bad_node l.nodes) (drop l.set-index l.sets) ≡ false;
  left : list_any sets_twice (drop l.set-index l.sets) ≡ list_any sets_twice l.sets;
}

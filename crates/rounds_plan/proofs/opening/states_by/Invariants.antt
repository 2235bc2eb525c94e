use Rattle.std.proofs.Common.{◌≡◌, false, not, drop, take, vec_len}
use Rattle.std.specs.List.{list_any}
use Rattle.rule_check.specs.Value.{names_of}
use Rattle.rule_check.specs.WellFormed.{is_among}
use Rattle.rounds_plan.specs.Plans.{has_bad_node, has_bad_value, openings_of}
use Rattle.rounds_plan.proofs.opening.states_by.Given as goal

abbrev pub invariant-loop-set : goal.invariant-loop-set
invariant-loop-set l = record {
  count : vec_len l.states ≡ l.nodes;
  known : list_any (λ set. not (is_among (names_of l.program) set.name)) (drop l.set-index l.sets) ≡ false;
  nodes : list_any (has_bad_node l.nodes) (drop l.set-index l.sets) ≡ false;
  values : list_any has_bad_value (drop l.set-index l.sets) ≡ false;
  done : l.states.items ≡ openings_of l.program l.nodes (take l.set-index l.sets);
}

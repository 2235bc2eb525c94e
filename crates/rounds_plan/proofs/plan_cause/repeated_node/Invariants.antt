use Rattle.std.proofs.Common.{◌≡◌, not, false, drop, length}
use Rattle.std.specs.List.{list_any}
use Rattle.rounds_plan.specs.Plans.{is_below, nodes_in}
use Rattle.rounds_plan.proofs.Entries.{Entered}
use Rattle.rounds_plan.proofs.plan_cause.repeated_node.Given as goal

abbrev pub invariant-loop-entry : goal.invariant-loop-entry
invariant-loop-entry l = record {
  kept : length l.seen ≡ length l.initial.seen;
  nodes : list_any (λ p. not (is_below (length l.initial.seen) p.0)) (drop l.entry l.pairs) ≡ false;
  entered : Entered (nodes_in l.pairs) l.entry l.seen;
}

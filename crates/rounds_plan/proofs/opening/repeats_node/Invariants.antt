use Rattle.std.proofs.Common.{◌≡◌, not, false, drop, length}
use Rattle.std.specs.List.{list_any}
use Rattle.rounds_plan.specs.Plans.{is_below, nodes_in}
use Rattle.rounds_plan.proofs.Marks.{twice_from}
use Rattle.rounds_plan.proofs.opening.repeats_node.Given as goal

abbrev pub invariant-loop-pair : goal.invariant-loop-pair
invariant-loop-pair l = record {
  kept : length l.seen ≡ length l.initial.seen;
  nodes : list_any (λ p. not (is_below (length l.initial.seen) p.0)) (drop l.pair-index l.pairs) ≡ false;
  left : twice_from l.seen (nodes_in (drop l.pair-index l.pairs)) ≡ twice_from l.initial.seen (nodes_in l.pairs);
}

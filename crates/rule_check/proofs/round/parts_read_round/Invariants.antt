use Rattle.std.proofs.Common.{◌≡◌, drop, map}
use Rattle.std.specs.List.{list_any}
use Rattle.rule_check.specs.Rounds.{code_reads_round}
use Rattle.rule_check.specs.Shapes.{part_shape}
use Rattle.rule_check.proofs.round.parts_read_round.Given as goal

abbrev pub invariant-loop-gatherer : goal.invariant-loop-gatherer
invariant-loop-gatherer l = list_any (λ shape. code_reads_round shape.1) (map part_shape (drop l.gatherer-index l.gatherers)) ≡ list_any (λ shape. code_reads_round shape.1) (map part_shape l.gatherers)

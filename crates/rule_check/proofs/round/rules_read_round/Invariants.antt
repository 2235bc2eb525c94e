use Rattle.std.proofs.Common.{◌≡◌, drop, map}
use Rattle.std.specs.List.{list_any}
use Rattle.rule_check.specs.Rounds.{code_reads_round}
use Rattle.rule_check.specs.Shapes.{rule_shape}
use Rattle.rule_check.proofs.round.rules_read_round.Given as goal

abbrev pub invariant-loop-rule : goal.invariant-loop-rule
invariant-loop-rule l = list_any (λ shape. code_reads_round shape.1) (map rule_shape (drop l.rule-index l.rules)) ≡ list_any (λ shape. code_reads_round shape.1) (map rule_shape l.rules)

use Rattle.std.proofs.Common.{◌≡◌, take, map}
use Rattle.rule_check.specs.Shapes.{rule_shape}
use Rattle.rule_check.proofs.same.same_rules.Given as goal

abbrev pub invariant-loop-k : goal.invariant-loop-k
invariant-loop-k l = map rule_shape (take l.k l.xs) ≡ map rule_shape (take l.k l.ys)

use Rattle.std.proofs.Common.{◌≡◌, take, map}
use Rattle.rule_check.specs.Shapes.{part_shape}
use Rattle.rule_check.proofs.same.same_parts.Given as goal

abbrev pub invariant-loop-k : goal.invariant-loop-k
invariant-loop-k l = map part_shape (take l.k l.xs) ≡ map part_shape (take l.k l.ys)

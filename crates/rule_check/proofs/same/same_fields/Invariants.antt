use Rattle.std.proofs.Common.{◌≡◌, take}
use Rattle.rule_check.proofs.same.same_fields.Given as goal

abbrev pub invariant-loop-k : goal.invariant-loop-k
invariant-loop-k l = take l.k l.xs ≡ take l.k l.ys

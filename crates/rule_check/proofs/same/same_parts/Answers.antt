use Rattle.std.proofs.Common.{subst, arith, rules}
use Rattle.std.specs.Prelude.{IsTrue}
use Rattle.rule_check.specs.Shapes.{part_shape}
use Rattle.rule_check.proofs.Equal.{same_at}
use Rattle.rule_check.proofs.same.same_parts.Goals as goal

pub returns-then-not-same_part : goal.returns-then-not-same_part
returns-then-not-same_part c = record {
  exact = (
    search rules,
    λ e. subst IsTrue c.if-not-same_part.true (c.same_part.ensures.exact.1 (same_at part_shape c.args.xs.now c.args.ys.now c.loop-k.k c.index-xs-k.result c.index-ys-k.result c.index-xs-k.is c.index-ys-k.is (omega arith) (omega arith) e)),
  );
}

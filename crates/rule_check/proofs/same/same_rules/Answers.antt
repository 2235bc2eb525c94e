use Rattle.std.proofs.Common.{subst, arith, rules}
use Rattle.std.specs.Prelude.{IsTrue}
use Rattle.rule_check.specs.Shapes.{rule_shape}
use Rattle.rule_check.proofs.Equal.{same_at}
use Rattle.rule_check.proofs.same.same_rules.Goals as goal

pub returns-then-not-same_rule : goal.returns-then-not-same_rule
returns-then-not-same_rule c = record {
  exact = (
    search rules,
    λ e. subst IsTrue c.if-not-same_rule.true (c.same_rule.ensures.exact.1 (same_at rule_shape c.args.xs.now c.args.ys.now c.loop-k.k c.index-xs-k.result c.index-ys-k.result c.index-xs-k.is c.index-ys-k.is (omega arith) (omega arith) e)),
  );
}

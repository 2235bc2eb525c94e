use Rattle.std.proofs.Common.{◌∙◌, sym, subst, ◌<◌}
use Rattle.rule_check.proofs.Counts.{seventeenth}
use Rattle.rule_check.proofs.diagnosis.too_many_aggregates.Goals as goal

pub returns-then-left-count-clause-named : goal.returns-then-left-count-clause-named
returns-then-left-count-clause-named c =
    let h = seventeenth c.args.items.now c.loop-k.k c.index-items-k.result c.in-Next.name c.in-Next.body c.loop-k.left c.loop-k-test.true (sym c.index-items-k.is ∙ c.in-Next.is) c.loop-k.invariant.few c.loop-k.invariant.rest (subst (λ n. c.loop-k.left < n) c.count_in-count.ensures.exact c.if-left-count.true) in
    (h.before, h.with)

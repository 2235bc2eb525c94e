use Rattle.std.specs.Prelude.{◌*◌}
use Rattle.std.proofs.Common.{sym, subst, ◌∙◌}
use Rattle.std.proofs.lemmas.Bool.{ltb-false}
use Rattle.rule_lang.specs.View.{tree_of}
use Rattle.rule_check.specs.Table.{M}
use Rattle.rule_cuts.specs.declared.operations.Operation.{Operation}
use Rattle.rule_cuts.specs.Operations.{HasRanges, IsNeverCut, operation_of}
use Rattle.rule_cuts.proofs.Uncut.{total_uncut}
use Rattle.rule_cuts.proofs.operations.can_be_cut.Goals as goal

pub returns-in-Total-clause-never : goal.returns-in-Total-clause-never
returns-in-Total-clause-never c = λ no ranges.
    let limits = c.args.limits.now in
    let body = c.in-Total.body in
    subst (λ (operation : Operation). IsNeverCut limits (operation_of operation)) (sym c.in-Total.is)
    (total_uncut limits (tree_of body.expr.now) body.range
    (ltb-false M (body.range.most * limits.bounds.degree) (sym c.passes-in-Total.ensures.exact ∙ no))
    (subst (λ (operation : Operation). HasRanges limits operation) c.in-Total.is ranges))

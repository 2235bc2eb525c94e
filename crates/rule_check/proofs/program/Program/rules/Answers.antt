-- The code that is lent is that of the program's next items.
use Rattle.std.proofs.Common.{ap, ◌∙◌, sym, subst, map, length}
use Rattle.std.specs.Prelude.{All}
use Rattle.rule_check.specs.Value.{cleared, alone}
use Rattle.rule_check.specs.Machine.{frame}
use Rattle.rule_check.specs.Gathering.{finished}
use Rattle.rule_check.specs.Loops.{written}
use Rattle.rule_check.specs.Shapes.{rule_shape, IsRule}
use Rattle.rule_check.proofs.Programs.{finish_words_are, rules_ok}
use Rattle.rule_check.proofs.Cleared.{cleared_long}
use Rattle.rule_check.proofs.program.Program.rules.Goals as goal

pub returns-clause-run : goal.returns-clause-run
returns-clause-run c = subst (All IsRule) (sym c.deref.ensures.value) (rules_ok c.self.inside c.self.invariant)

pub returns-clause-finish : goal.returns-clause-finish
returns-clause-finish c = λ round id degree own sums whole.
    let p = c.self.inside in
    let f = frame id degree round own (alone id own) sums.words in
    let words = cleared (length c.args.self.now.fields) own.words in
    sym
    (ap (λ rs. written f (map rule_shape rs) words) c.deref.ensures.value
    ∙ ap (λ v. written f (map rule_shape p.rules.items) (cleared (length v.fields) own.words)) (sym c.self.view_is)
    ∙ finish_words_are p c.self.invariant f (cleared (length p.fields.items) own.words) (cleared_long (length p.fields.items) own.words (ap (λ v. length v.fields) c.self.view_is) whole)
    ∙ ap (λ v. (finished v round id degree own sums).words) c.self.view_is)

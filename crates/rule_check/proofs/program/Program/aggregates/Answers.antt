-- The code that is lent is that of the program's aggregates.
use Rattle.std.proofs.Common.{[], ap, ◌∙◌, sym, subst, map, replicate}
use Rattle.std.specs.Prelude.{All}
use Rattle.rule_check.specs.Value.{here_at, updated}
use Rattle.rule_check.specs.Machine.{frame}
use Rattle.rule_check.specs.Gathering.{sums_at, taken}
use Rattle.rule_check.specs.Loops.{with_none, with_near}
use Rattle.rule_check.specs.Shapes.{part_shape, IsPart}
use Rattle.rule_check.proofs.Programs.{start_words_are, take_words_are, parts_ok}
use Rattle.rule_check.proofs.program.Program.aggregates.Goals as goal

pub returns-clause-run : goal.returns-clause-run
returns-clause-run c = subst (All IsPart) (sym c.deref.ensures.value) (parts_ok c.self.inside c.self.invariant)

pub returns-clause-start : goal.returns-clause-start
returns-clause-start c = λ round id degree own.
    sym
    (ap (λ gs. updated with_none (map part_shape gs) (replicate 16 0)) c.deref.ensures.value
    ∙ start_words_are c.self.inside c.self.invariant round id degree own
    ∙ ap (λ v. (sums_at v (here_at v round id degree own [])).words) c.self.view_is)

pub returns-clause-take : goal.returns-clause-take
returns-clause-take c = λ round id degree own near nears sums any.
    sym
    (ap (λ gs. updated (with_near (frame id degree round own near any)) (map part_shape gs) sums.words) c.deref.ensures.value
    ∙ take_words_are c.self.inside c.self.invariant round id degree own near any sums.words nears
    ∙ ap (λ v. (taken v (here_at v round id degree own nears) near sums).words) c.self.view_is)

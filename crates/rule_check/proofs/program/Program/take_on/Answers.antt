-- The words that the aggregates' code leaves are those of one neighbour more.
use Rattle.std.proofs.Common.{◌∷◌, ◌++◌, ap, ◌∙◌, sym, subst, map, replicate, ◌≡◌}
use Rattle.std.specs.Prelude.{All}
use Rattle.rule_check.specs.Value.{here_at, updated, Rules}
use Rattle.rule_check.specs.Machine.{frame}
use Rattle.rule_check.specs.Gathering.{sums_at, taken}
use Rattle.rule_check.specs.Loops.{with_near}
use Rattle.rule_check.specs.Shapes.{part_shape, IsPart}
use Rattle.rule_check.proofs.Programs.{take_words_are, taken_anywhere, parts_ok, sums_from}
use Rattle.rule_check.proofs.program.Program.take_on.Goals as goal

pub take_words-requires-clause-run : goal.take_words-requires-clause-run
take_words-requires-clause-run c = subst (All IsPart) (sym c.deref.ensures.value) (parts_ok c.self.inside c.self.invariant)

pub returns-clause-step : goal.returns-clause-step
returns-clause-step c = λ nears.
    let a = c.args in
    let f = frame a.node.now.id a.node.now.degree a.node.now.round a.node.now.own.now a.near.now (replicate 16 0) in
    ap sums_from
    (c.take_words.ensures.exact
    ∙ ap (λ gs. updated (with_near f) (map part_shape gs) a.sums.now.words) c.deref.ensures.value
    ∙ take_words_are c.self.inside c.self.invariant a.node.now.round a.node.now.id a.node.now.degree a.node.now.own.now a.near.now (replicate 16 0) a.sums.now.words nears)
    ∙ ap (λ v. taken v (here_at v a.node.now.round a.node.now.id a.node.now.degree a.node.now.own.now nears) a.near.now a.sums.now) c.self.view_is

pub returns-clause-anywhere : goal.returns-clause-anywhere
returns-clause-anywhere c = λ front back few old.
    let a = c.args in
    let law = λ (v : Rules). taken v (here_at v a.node.now.round a.node.now.id a.node.now.degree a.node.now.own.now (front ++ back)) a.near.now (sums_at v (here_at v a.node.now.round a.node.now.id a.node.now.degree a.node.now.own.now (front ++ back))) ≡ sums_at v (here_at v a.node.now.round a.node.now.id a.node.now.degree a.node.now.own.now (front ++ a.near.now ∷ back)) in
    returns-clause-step c (front ++ back)
    ∙ ap (taken a.self.now (here_at a.self.now a.node.now.round a.node.now.id a.node.now.degree a.node.now.own.now (front ++ back)) a.near.now) old
    ∙ subst law c.self.view_is (taken_anywhere c.self.inside c.self.invariant a.node.now.round a.node.now.id a.node.now.degree a.node.now.own.now front back a.near.now few)

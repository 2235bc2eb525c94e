use Rattle.std.proofs.Common.{[], ◌++◌, ◌<◌, length, take, ap, ◌∙◌, sym, arith, length-take, append-nil, refl}
use Rattle.std.proofs.lemmas.List.{take_more, take_all}
use Rattle.rule_check.specs.declared.state.Near.{Near}
use Rattle.std.specs.Prelude.{List}
use Rattle.rule_check.specs.Value.{here_at}
use Rattle.rule_check.specs.Gathering.{sums_at}
use Rattle.rule_check.proofs.program.Program.next.Goals as goal

pub loop-near-init : goal.loop-near-init
loop-near-init c = c.start-sums.ensures.none c.args.round c.args.id (length c.args.neighbours.now) c.args.own

pub loop-near-preserved : goal.loop-near-preserved
loop-near-preserved c =
    let a = c.args in
    let ns = a.neighbours.now in
    let i = c.loop-near.near-index in
    let sums_over = λ (nears : List Near). sums_at a.self.now (here_at a.self.now a.round a.id (length ns) a.own nears) in
    let few : length (take i ns ++ []) < 4294967295 = rw append-nil (simp length-take (omega (arith, c.requires))) in
    c.take_on.ensures.anywhere (take i ns) [] few (c.loop-near.invariant ∙ ap sums_over (sym (append-nil (take i ns))))
    ∙ ap sums_over (sym (take_more ns i _ c.loop-near-test.true))

pub returns-clause-exact : goal.returns-clause-exact
returns-clause-exact c =
    let a = c.args in
    let ns = a.neighbours.now in
    let v = a.self.now in
    sym (c.finish_on.ensures.completes ns refl
    (c.loop-near.invariant ∙ ap (λ nears. sums_at v (here_at v a.round a.id (length ns) a.own nears)) (take_all c.loop-near.near-index ns c.loop-near-test.false)))

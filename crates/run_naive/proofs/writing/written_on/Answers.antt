use Rattle.std.proofs.Common.{◌≡◌, ◌∙◌, List, ap, arith, length, map, subst, sym}
use Rattle.std.proofs.lemmas.List.{length-map}
use Rattle.run_naive.specs.Naive.{NaiveNode, node_in}
use Rattle.run_naive.specs.Keeping.{IsNaive, shown}
use Rattle.run_naive.proofs.Machine.{naive_after}
use Rattle.run_naive.proofs.writing.written_on.Goals as goal

pub make-requires-clause-naive : goal.make-requires-clause-naive
make-requires-clause-naive c =
    let p = c.args.plan.now in
    let same = ap (map shown) c.as_mut_slice.ensures.value ∙ c.loop-index.invariant.shown in
    subst (IsNaive p c.args.stop) (sym same) (naive_after p c.args.stop c.args.steps.now c.loop-index.index c.requires.late)

pub returns-clause-within : goal.returns-clause-within
returns-clause-within c =
    let p = c.args.plan.now in
    let stop = c.args.stop in
    let nodes = c.deref.result.now in
    let shows = ap (map shown) c.deref.ensures.value ∙ c.loop-index.invariant.shown in
    let naive = naive_after p stop c.args.steps.now c.loop-index.index c.requires.late in
    let count : length nodes ≡ length p.network = sym (length-map nodes shown) ∙ ap length shows ∙ naive.one_each in
    c.most_moves-last.ensures.few stop c.requires.late
    (λ u h. (let few = naive.within u (omega (arith, h, count)) in omega (arith, few, ap (λ (ns : List NaiveNode). (node_in ns u).moves) shows)))

use Rattle.std.proofs.Common.{◌≡◌, ◌∙◌, ◌++◌, ◌∷◌, ◌<◌, List, [], ap, arith, length, map, string_bytes, subst, sym}
use Rattle.std.specs.Prelude.{option_map}
use Rattle.std.specs.List.{flat_map}
use Rattle.std.proofs.lemmas.List.{length-map}
use Rattle.link_net.specs.Neighbours.{numbers_below}
use Rattle.rule_check.specs.Value.{Rules, names_of}
use Rattle.run_naive.specs.declared.node.Node.{Node}
use Rattle.run_naive.specs.declared.node.Move.{Move}
use Rattle.run_naive.specs.Naive.{NaiveNode, node_in}
use Rattle.run_naive.specs.Differences.{nodes_after}
use Rattle.run_naive.specs.Telling.{differing_line, first_line, node_line}
use Rattle.run_naive.specs.Keeping.{AreAllCompared, difference_line, moment_of, past_of, shown}
use Rattle.run_naive.proofs.First.{first_found, line_found}
use Rattle.run_naive.proofs.Lines.{four_parts}
use Rattle.run_naive.proofs.Machine.{naive_after}
use Rattle.run_naive.proofs.telling.told_on.Goals as goal

pub compare-requires-clause-few : goal.compare-requires-clause-few
compare-requires-clause-few c =
    let p = c.args.plan.now in
    let steps = c.args.steps.now in
    let nodes = c.deref.result.now in
    let shows = ap (map shown) c.deref.ensures.value ∙ c.in_ok-nodes.ensures.after in
    let naive = naive_after p c.args.stop steps (length steps) c.requires.late in
    let count : length nodes ≡ length p.network = sym (length-map nodes shown) ∙ ap length shows ∙ naive.one_each in
    λ u h. (let few = naive.within u (omega (arith, h, count)) in omega (arith, few, c.requires.limit, ap (λ (ns : List NaiveNode). (node_in ns u).moves) shows))

pub returns : goal.returns
returns c =
    let p = c.args.plan.now in
    let stop = c.args.stop in
    let steps = c.args.steps.now in
    let items = c.in_ok-nodes.nodes.items in
    let end = nodes_after p stop steps (length steps) in
    let first = c.in_ok-compared.compared.first in
    let after = c.in_ok-nodes.ensures.after in
    let kept = c.in_ok-nodes.ensures.kept in
    let compared : AreAllCompared p end (map past_of items) first =
    subst (λ (ns : List NaiveNode). AreAllCompared p ns (map past_of items) first) after
    (subst (λ (ns : List Node). AreAllCompared p (map shown ns) (map past_of ns) first) c.deref.ensures.value c.in_ok-compared.ensures.first) in
    let lines = flat_map (node_line p end) (numbers_below (length p.network)) in
    let start = string_bytes c.new-out.result in
    let one = string_bytes c.put_nodes.new.out in
    let two = string_bytes c.push_str.new.self in
    let three = string_bytes c.put_first.new.out in
    let four = string_bytes c.put_differing.new.out in
    let nodes_put : one ≡ start ++ lines =
    c.in_ok-put_nodes.ensures.lines
    ∙ ap (λ (ns : List NaiveNode). start ++ flat_map (node_line p ns) (numbers_below (length p.network))) (ap (map shown) c.deref-2.ensures.value ∙ after) in
    let first_put : three ≡ two ++ first_line p stop steps (option_map moment_of first) =
    c.in_ok-put_first.ensures.line
    ∙ ap (λ (rules : Rules). two ++ difference_line (names_of rules) first) c.program.ensures.program
    ∙ ap (λ t. two ++ t) (line_found p stop steps (map past_of items) kept first compared) in
    let last_put : four ≡ three ++ differing_line p end =
    c.in_ok-put_differing.ensures.line ∙ ap (λ (ns : List NaiveNode). three ++ differing_line p ns) (ap (map shown) c.deref-4.ensures.value ∙ after) in
    let bytes = ap (λ v. v.items) c.into_bytes.ensures.value in
    record {
      text = (
        option_map moment_of first,
        first_found p stop steps (map past_of items) kept first compared,
        bytes ∙ four_parts start one two three four lines (10 ∷ []) (first_line p stop steps (option_map moment_of first)) (differing_line p end)
            c.new-out.ensures.bytes nodes_put c.in_ok-push_str.ensures.bytes first_put last_put,
      );
    }

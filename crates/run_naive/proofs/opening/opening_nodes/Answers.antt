use Rattle.std.proofs.Common.{◌≡◌, ◌∙◌, ◌++◌, ◌∷◌, ℕ, List, [], ap, map, subst, sym, zero-add}
use Rattle.std.proofs.lemmas.List.{map-append}
use Rattle.std.proofs.lemmas.List.FromFn.{map-range_with_len_more}
use Rattle.link_net.specs.Neighbours.{numbers_below}
use Rattle.run_naive.specs.declared.node.Move.{Move}
use Rattle.run_naive.specs.Naive.{NaiveNode, opening_node}
use Rattle.run_naive.specs.Keeping.{past_in, past_of, shown}
use Rattle.run_naive.proofs.Seen.{empty_more}
use Rattle.run_naive.proofs.opening.opening_nodes.Goals as goal

pub loop-node-preserved : goal.loop-node-preserved
loop-node-preserved c =
    let p = c.args.plan.now in
    let u = c.loop-node.node in
    let old = c.loop-node.nodes.items in
    let n = c.in_ok-opening_node.field-0 in
    let items : c.push.new.self.items ≡ old ++ n ∷ [] = c.in_ok-push.ensures.items in
    let pasts : map past_of c.push.new.self.items ≡ map past_of old ++ [] ∷ [] =
    ap (map past_of) items ∙ map-append past_of old (n ∷ []) ∙ ap (λ (ms : List Move). map past_of old ++ ms ∷ []) c.in_ok-opening_node.ensures.past in
    record {
      shown =
          ap (map shown) items ∙ map-append shown old (n ∷ [])
          ∙ ap (λ (ns : List NaiveNode). ns ++ shown n ∷ []) c.loop-node.invariant.shown
          ∙ ap (λ (x : NaiveNode). map (opening_node p) (numbers_below u) ++ x ∷ []) c.in_ok-opening_node.ensures.exact
          ∙ sym (map-range_with_len_more (opening_node p) 0 u u (zero-add u));
      past = λ v. ap (λ (ps : List (List Move)). past_in ps v) pasts ∙ empty_more (map past_of old) c.loop-node.invariant.past v;
    }

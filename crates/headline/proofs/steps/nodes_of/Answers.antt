use Rattle.std.proofs.Common.{◌∙◌, ◌++◌, ◌∷◌, [], List, ap, map, sym, zero-add}
use Rattle.std.proofs.lemmas.List.FromFn.{map-range_with_len_more}
use Rattle.link_net.specs.Neighbours.{numbers_below}
use Rattle.headline.specs.declared.steps.Shown.{Shown}
use Rattle.headline.specs.Showing.{shown_in}
use Rattle.headline.proofs.steps.nodes_of.Goals as goal

pub loop-node-preserved : goal.loop-node-preserved
loop-node-preserved c =
    let f = shown_in c.args.world.now in
    let u = c.loop-node.node in
    c.in_ok-push.ensures.items
    ∙ ap (λ (ns : List Shown). ns ++ c.shown_at.result ∷ []) c.loop-node.invariant
    ∙ ap (λ (n : Shown). map f (numbers_below u) ++ n ∷ []) c.shown_at.ensures.shown
    ∙ sym (map-range_with_len_more f 0 u u (zero-add u))

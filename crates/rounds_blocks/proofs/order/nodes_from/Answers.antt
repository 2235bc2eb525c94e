use Rattle.std.proofs.Common.{◌≡◌, ◌∙◌, ◌++◌, ◌∷◌, ◌+◌, ◌-◌, [], ap, sym, arith}
use Rattle.std.specs.List.{range_with_len}
use Rattle.rounds_blocks.proofs.Ranges.{range_more}
use Rattle.rounds_blocks.proofs.order.nodes_from.Goals as goal

pub loop-node-preserved : goal.loop-node-preserved
loop-node-preserved c =
    let l = c.loop-node in
    let a = c.args.first in
    let place : a + (l.node - a) ≡ l.node = omega (arith, l.auto.node) in
    let more : l.node - a + 1 ≡ l.node + 1 - a = omega (arith, l.auto.node) in
    c.in_ok-push.ensures.items
    ∙ ap (λ xs. xs ++ l.node ∷ []) l.invariant
    ∙ ap (λ x. range_with_len a (l.node - a) ++ x ∷ []) (sym place)
    ∙ sym (range_more a (l.node - a))
    ∙ ap (range_with_len a) more

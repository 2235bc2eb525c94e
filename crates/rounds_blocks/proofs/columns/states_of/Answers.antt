use Rattle.std.proofs.Common.{◌∙◌, ◌++◌, ◌∷◌, [], ap, sym, map}
use Rattle.link_net.specs.Neighbours.{numbers_below}
use Rattle.rounds_code.specs.Block.{state_at}
use Rattle.rounds_blocks.proofs.States.{states_more, plain_all}
use Rattle.rounds_blocks.proofs.columns.states_of.Goals as goal

pub loop-node-preserved : goal.loop-node-preserved
loop-node-preserved c =
    let l = c.loop-node in
    let columns = c.args.columns.now in
    c.in_ok-push.ensures.items
    ∙ ap (λ xs. xs ++ c.state_of.result ∷ []) l.invariant
    ∙ ap (λ s. map (state_at columns) (numbers_below l.node) ++ s ∷ []) c.state_of.ensures.exact
    ∙ sym (states_more (state_at columns) l.node)

pub returns-clause-plain : goal.returns-clause-plain
returns-clause-plain c = plain_all c.args.columns.now c.loop-node.node c.loop-node.states.items c.loop-node.invariant

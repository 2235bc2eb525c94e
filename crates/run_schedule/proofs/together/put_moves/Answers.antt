use Rattle.std.proofs.Common.{◌≡◌, ◌+◌, ◌++◌, ◌∷◌, [], ap, ◌∙◌, map, take, get_or, append_assoc, append-nil, sym, arith}
use Rattle.std.proofs.lemmas.List.{take_more, take_all}
use Rattle.unison_world.specs.declared.step.Step.TheVariants.{Write}
use Rattle.run_schedule.proofs.Fronts.{map-snoc}
use Rattle.run_schedule.proofs.together.put_moves.Goals as goal

pub loop-node-init : goal.loop-node-init
loop-node-init c = sym (append-nil c.args.steps.now.items)

pub loop-node-preserved : goal.loop-node-preserved
loop-node-preserved c =
    let first = c.args.steps.now.items in
    let nodes = c.args.nodes.now in
    let k = c.loop-node.node-index in
    let u = get_or nodes k 0 in
    let front : take (k + 1) nodes ≡ take k nodes ++ u ∷ [] = take_more nodes k 0 (omega arith) in
    c.in_ok-push.ensures.items ∙ ap (λ xs. xs ++ Write u ∷ []) c.loop-node.invariant ∙ append_assoc first (map (λ u. Write u) (take k nodes)) (Write u ∷ [])
    ∙ ap (λ xs. first ++ xs) (sym (map-snoc (λ u. Write u) (take k nodes) u) ∙ ap (map (λ u. Write u)) (sym front))

pub returns : goal.returns
returns c =
    let nodes = c.args.nodes.now in
    let whole : take c.loop-node.node-index nodes ≡ nodes = take_all c.loop-node.node-index nodes (omega arith) in
    record { put = c.loop-node.invariant ∙ ap (λ xs. c.args.steps.now.items ++ map (λ u. Write u) xs) whole }

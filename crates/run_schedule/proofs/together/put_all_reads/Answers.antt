use Rattle.std.proofs.Common.{◌≡◌, ◌+◌, ◌++◌, ◌∷◌, [], ap, ◌∙◌, take, get_or, append_assoc, append-nil, sym, arith}
use Rattle.std.specs.List.{flat_map}
use Rattle.std.proofs.lemmas.List.{take_more, take_all}
use Rattle.run_schedule.specs.Daemons.{reads_of}
use Rattle.run_schedule.proofs.Fronts.{flat_map-snoc}
use Rattle.run_schedule.proofs.together.put_all_reads.Goals as goal

pub loop-node-init : goal.loop-node-init
loop-node-init c = sym (append-nil c.args.steps.now.items)

pub loop-node-preserved : goal.loop-node-preserved
loop-node-preserved c =
    let first = c.args.steps.now.items in
    let reads = reads_of c.args.network.now in
    let nodes = c.args.nodes.now in
    let k = c.loop-node.node-index in
    let u = get_or nodes k 0 in
    let front : take (k + 1) nodes ≡ take k nodes ++ u ∷ [] = take_more nodes k 0 (omega arith) in
    c.in_ok-put_reads.ensures.put ∙ ap (λ xs. xs ++ reads u) c.loop-node.invariant ∙ append_assoc first (flat_map reads (take k nodes)) (reads u)
    ∙ ap (λ xs. first ++ xs) (sym (flat_map-snoc reads (take k nodes) u) ∙ ap (flat_map reads) (sym front))

pub returns : goal.returns
returns c =
    let nodes = c.args.nodes.now in
    let whole : take c.loop-node.node-index nodes ≡ nodes = take_all c.loop-node.node-index nodes (omega arith) in
    record { put = c.loop-node.invariant ∙ ap (λ xs. c.args.steps.now.items ++ flat_map (reads_of c.args.network.now) xs) whole }

use Rattle.std.proofs.Common.{sym, ap, ◌∙◌, ◌++◌, ◌∷◌, [], map, arith}
use Rattle.std.proofs.lemmas.List.{append_assoc}
use Rattle.std.proofs.lemmas.List.FromFn.{map-range_with_len_more}
use Rattle.link_net.specs.Neighbours.{numbers_below}
use Rattle.net_random.specs.RandomNetworks.{ring_link}
use Rattle.net_random.proofs.lattice.put_following.Goals as goal

pub loop-step-preserved : goal.loop-step-preserved
loop-step-preserved c =
    let follow = ring_link c.args.nodes c.args.node in
    let before = c.args.links.now.items in
    let step = c.loop-step.step in
    c.in_ok-push.ensures.items
    ∙ ap (λ ls. ls ++ follow step ∷ []) c.loop-step.invariant
    ∙ append_assoc before (map follow (numbers_below step)) (follow step ∷ [])
    ∙ ap (λ ls. before ++ ls) (sym (map-range_with_len_more follow 0 step step (omega arith)))

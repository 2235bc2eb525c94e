use Rattle.std.proofs.Common.{◌++◌, ◌∷◌, [], map, take, get_or, ap, ◌∙◌, append_assoc}
use Rattle.net_random.specs.Growth.{link_to}
use Rattle.net_random.proofs.Mapped.{map_more}
use Rattle.net_random.proofs.growth.put_links.Goals as goal

pub loop-other-preserved : goal.loop-other-preserved
loop-other-preserved c =
    let others = c.args.others.now in
    let i = c.loop-other.other-index in
    let link = link_to c.args.node in
    let last = link (get_or others i 0) ∷ [] in
    let before = c.args.links.now.items in
    c.in_ok-push.ensures.items ∙ ap (λ ls. ls ++ last) c.loop-other.invariant ∙ append_assoc before (map link (take i others)) last
    ∙ ap (λ ls. before ++ ls) (map_more link others i 0 c.loop-other-test.true)

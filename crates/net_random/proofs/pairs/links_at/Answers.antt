use Rattle.std.proofs.Common.{◌++◌, ◌∷◌, [], get_or, ap, ◌∙◌}
use Rattle.net_random.specs.Pairs.{link_at}
use Rattle.net_random.proofs.Mapped.{map_more}
use Rattle.net_random.proofs.pairs.links_at.Goals as goal

-- one link more
pub loop-place-preserved : goal.loop-place-preserved
loop-place-preserved c =
    let places = c.args.places.now in
    let i = c.loop-place.place-index in
    let link = link_at c.args.nodes in
    c.in_ok-push.ensures.items ∙ ap (λ l. c.loop-place.links.items ++ l ∷ []) c.link_at.ensures ∙ ap (λ ls. ls ++ link (get_or places i 0) ∷ []) c.loop-place.invariant
    ∙ map_more link places i 0 c.loop-place-test.true

pub link_at-requires-clause-low : goal.link_at-requires-clause-low
link_at-requires-clause-low c = c.requires.low c.loop-place.place-index 0 c.loop-place-test.true

use Rattle.std.proofs.Common.{◌++◌, ◌∷◌, [], get_or, ap, sym, ◌∙◌}
use Rattle.std.proofs.lemmas.List.{take_more}
use Rattle.net_initial.proofs.draw.as_nodes.Goals as goal

-- one node more
pub loop-place-preserved : goal.loop-place-preserved
loop-place-preserved c =
    let places = c.args.places.now in
    let i = c.loop-place.place-index in
    c.in_ok-push.ensures.items ∙ ap (λ ns. ns ++ get_or places i 0 ∷ []) c.loop-place.invariant ∙ sym (take_more places i 0 c.loop-place-test.true)

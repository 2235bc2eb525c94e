use Rattle.std.proofs.Common.{◌++◌, ◌∷◌, [], arith, map, get_or, ap, sym, ◌∙◌, subst}
use Rattle.std.proofs.lemmas.List.{map-append}
use Rattle.net_random.specs.Weights.{ends, AllBetween}
use Rattle.net_random.proofs.Mapped.{map_more}
use Rattle.net_random.proofs.SameEnds.{between_more}
use Rattle.net_random.proofs.weight_draw.drawn_weights.Goals as goal

-- one link more
pub loop-link-preserved : goal.loop-link-preserved
loop-link-preserved c =
    let links = c.args.links.now in
    let i = c.loop-link.link-index in
    let here = get_or links i (0, 0, 0) in
    let weight = c.random_range-weight.result in
    let drawn = c.loop-link.drawn.items in
    let put = c.in_ok-push.ensures.items in
    record {
      ends =
          ap (map ends) put ∙ map-append ends drawn ((here.0, here.1, weight) ∷ []) ∙ ap (λ ls. ls ++ ends here ∷ []) c.loop-link.invariant.ends
          ∙ map_more ends links i (0, 0, 0) c.loop-link-test.true;
      weights =
          let within = c.random_range-weight.ensures.within in
          subst (AllBetween c.args.low c.args.high) (sym put) (between_more c.args.low c.args.high drawn (here.0, here.1, weight) c.loop-link.invariant.weights (omega (arith, within)) (omega (arith, within)));
    }

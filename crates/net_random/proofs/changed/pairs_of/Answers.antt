use Rattle.std.proofs.Common.{◌≡◌, ◌==◌, ◌&&◌, true, min, max, take, slice_index_or, cond, ap, sym, ◌∙◌, arith}
use Rattle.std.proofs.lemmas.List.{take_more, take_all}
use Rattle.link_net.specs.Links.{are_linked}
use Rattle.net_random.specs.Changed.{has_pair}
use Rattle.net_random.proofs.Changing.{pairs_more}
use Rattle.net_random.proofs.changed.pairs_of.Goals as goal

pub loop-link-preserved : goal.loop-link-preserved
loop-link-preserved c u w low =
    let links = c.args.links.now in
    let i = c.loop-link.link-index in
    let here = slice_index_or links i (0, 0, 0) in
    let known = c.loop-link.invariant u w low in
    let after : has_pair c.insert.new.self.keys u w ≡ cond (min here.0 here.1 == u && max here.0 here.1 == w) true (has_pair c.loop-link.pairs.keys u w) = rw c.pair.ensures at (c.in_ok-insert.ensures.updates.0 (u, w)) in
    after ∙ pairs_more (take i links) here u w (has_pair c.loop-link.pairs.keys u w) low known ∙ ap (λ ls. are_linked ls u w) (sym (take_more links i (0, 0, 0) (omega (arith, c.loop-link-test.true))))

pub returns : goal.returns
returns c u w low = c.loop-link.invariant u w low ∙ ap (λ ls. are_linked ls u w) (take_all c.loop-link.link-index c.args.links.now (omega (arith, c.loop-link-test.false)))

use Rattle.std.proofs.Common.{◌∙◌}
use Rattle.std.proofs.lemmas.List.{drop_more}
use Rattle.link_net.proofs.ArcLaws.{two_more}
use Rattle.link_net.proofs.tables.arcs.Goals as goal

pub loop-link-preserved : goal.loop-link-preserved
loop-link-preserved c =
    let before = rw (drop_more c.args.links.now c.loop-link.link-index (0, 0, 0) c.loop-link-test.true) at c.loop-link.invariant in
    rw (c.in_ok-push-2.ensures.items, c.in_ok-push.ensures.items) (two_more c.loop-link.arcs.items _ _ _ ∙ before)

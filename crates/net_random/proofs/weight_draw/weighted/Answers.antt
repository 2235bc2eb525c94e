use Rattle.net_random.proofs.SameEnds.{listing_same}
use Rattle.net_random.proofs.weight_draw.weighted.Goals as goal

pub sound-requires : goal.sound-requires
sound-requires c =
    rw c.nodes.ensures.count
    (listing_same c.args.list.now.nodes c.args.list.now.links c.in_ok-links.links.items (rw c.links.ensures.links at c.in_ok-links.ensures.ends) c.nodes.ensures.whole)

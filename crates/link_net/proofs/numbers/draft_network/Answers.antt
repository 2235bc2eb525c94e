use Rattle.std.proofs.Common.{◌≡◌, Some, arith}
use Rattle.link_net.specs.Limits.{most_nodes}
use Rattle.link_net.specs.Reading.{number_in}
use Rattle.link_net.proofs.Describing.{from_read, drawn_is}
use Rattle.link_net.proofs.numbers.draft_network.Goals as goal

pub returns : goal.returns
returns c =
    let nodes : number_in 1 most_nodes c.args.draft.now.nodes ≡ Some c.in_ok-nodes.nodes = grind arith in
    let read = from_read _ c.in_ok-links.links.items (rw c.as_slice.ensures at c.in_ok-links.ensures.answer) in
    rw (drawn_is c.args.draft.now c.in_ok-nodes.nodes read.0 nodes read.1, ← read.2, ← c.as_slice-2.ensures.value) c.link_network.ensures

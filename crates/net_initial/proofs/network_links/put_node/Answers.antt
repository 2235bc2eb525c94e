use Rattle.net_initial.proofs.Rows.{columns, no_row}
use Rattle.net_initial.proofs.network_links.put_node.Goals as goal

pub returns-in_default : goal.returns-in_default
returns-in_default c = no_row _ c.args.network.now c.args.node c.args.links.now.items c.in_default.ensures.value

pub returns : goal.returns
returns c =
    let (long, is) = columns c.args.network.now c.args.node c.in-Some.neighbours.now c.in-Some-weights.weights.now c.in-Some.ensures.value c.in-Some-weights.ensures.value in
    rw is at c.put_above.ensures

use Rattle.import_network.proofs.JoinFaults.{finish_refused}
use Rattle.import_network.proofs.edges.join_and_finish.Goals as goal

pub returns-clause-fault : goal.returns-clause-fault
returns-clause-fault c =
    let links = rw c.in_ok-joined.ensures.links at c.as_slice.ensures.value in
    finish_refused c.args.making c.args.edges.now c.args.names c.in_ok-joined.joined.names c.count-nodes.result c.as_slice.result.now c.finished.result
    c.in_ok-joined.ensures.named c.count-nodes.ensures.count links c.in_ok-joined.ensures.are_names c.finished.ensures.fault

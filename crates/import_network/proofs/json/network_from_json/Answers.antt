use Rattle.std.proofs.Common.{rules, ◌≡◌, Err}
use Rattle.import_formats.specs.json.Graphs.{graph_of}
use Rattle.import_network.specs.Faults.{json_fault}
use Rattle.import_network.specs.Makings.{most_of}
use Rattle.import_network.proofs.JsonSteps.{told_refused}
use Rattle.import_network.proofs.json.network_from_json.Goals as goal

pub returns-in_err-graph-clause-fault : goal.returns-in_err-graph-clause-fault
returns-in_err-graph-clause-fault c =
    let why = c.in_err-graph.field-0.0 in
    let is : c.from_residual.result ≡ Err (json_fault why) = search rules in
    let answer = rw (c.most_nodes.ensures.most) at c.in_err-graph.ensures.answer in
    told_refused c.args.making (graph_of (most_of c.args.making) c.args.reading.now.undirected c.args.reading.now.factor c.args.text.now) why c.from_residual.result answer is

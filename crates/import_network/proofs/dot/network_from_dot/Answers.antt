use Rattle.std.proofs.Common.{refl}
use Rattle.import_formats.specs.dot.Graphs.{Says}
use Rattle.import_formats.specs.dot.View.{graph_view}
use Rattle.import_network.proofs.DotSteps.{given_names, said_graph, dot_network, dot_names, dot_refused, same_fault, read_fault, read_refused}
use Rattle.import_network.proofs.dot.network_from_dot.Goals as goal

pub returns-clause-network : goal.returns-clause-network
returns-clause-network c =
    let g = graph_view c.in_ok-graph.graph in
    let says = Says c.args.reading.now.undirected c.args.reading.now.factor c.args.text.now in
    let answer = c.in_ok-graph.ensures.answer in
    let named = given_names g c.as_slice.result.now c.in_ok-graph.graph.nodes.items c.in_ok-names.names c.in_ok-names.ensures.named c.as_slice.ensures.value refl in
    dot_network c.args.making g says c.in_ok-names.names c.as_slice-2.result.now (said_graph says answer.0 g answer.1 answer.2) named c.as_slice-2.ensures.value c.join_and_finish.result c.join_and_finish.ensures.network

pub returns-clause-names : goal.returns-clause-names
returns-clause-names c =
    let g = graph_view c.in_ok-graph.graph in
    let says = Says c.args.reading.now.undirected c.args.reading.now.factor c.args.text.now in
    let answer = c.in_ok-graph.ensures.answer in
    let named = given_names g c.as_slice.result.now c.in_ok-graph.graph.nodes.items c.in_ok-names.names c.in_ok-names.ensures.named c.as_slice.ensures.value refl in
    dot_names c.args.making g says c.in_ok-names.names c.as_slice-2.result.now (said_graph says answer.0 g answer.1 answer.2) named c.as_slice-2.ensures.value c.join_and_finish.result c.join_and_finish.ensures.names

pub returns-clause-fault : goal.returns-clause-fault
returns-clause-fault c =
    let g = graph_view c.in_ok-graph.graph in
    let says = Says c.args.reading.now.undirected c.args.reading.now.factor c.args.text.now in
    let answer = c.in_ok-graph.ensures.answer in
    let named = given_names g c.as_slice.result.now c.in_ok-graph.graph.nodes.items c.in_ok-names.names c.in_ok-names.ensures.named c.as_slice.ensures.value refl in
    dot_refused c.args.making g says c.in_ok-names.names c.as_slice-2.result.now (said_graph says answer.0 g answer.1 answer.2) named c.as_slice-2.ensures.value c.join_and_finish.result c.join_and_finish.ensures.fault

pub returns-clause-refused : goal.returns-clause-refused
returns-clause-refused c fault says = absurd (let clash = c.in_ok-graph.ensures.refused fault says in cc)

pub returns-in_err-names-clause-refused : goal.returns-in_err-names-clause-refused
returns-in_err-names-clause-refused c fault says = absurd (let clash = c.in_ok-graph.ensures.refused fault says in cc)

pub returns-in_err-graph-clause-refused : goal.returns-in_err-graph-clause-refused
returns-in_err-graph-clause-refused c fault says =
    read_fault c.from_residual.result c.in_err-graph.field-0.0 c.from_residual.ensures.1 fault (same_fault _ c.in_err-graph.field-0.0 fault refl (c.in_err-graph.ensures.refused fault says))

pub returns-in_err-graph-clause-fault : goal.returns-in_err-graph-clause-fault
returns-in_err-graph-clause-fault c =
    let answer = c.in_err-graph.ensures.answer in
    let bad = c.in_err-graph.field-0.0 in
    read_refused c.from_residual.result bad c.from_residual.ensures.1 c.args.making (Says c.args.reading.now.undirected c.args.reading.now.factor c.args.text.now) answer.0 answer.1 answer.2
    (λ fault says. same_fault _ bad fault refl (c.in_err-graph.ensures.refused fault says))

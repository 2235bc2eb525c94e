use Rattle.std.proofs.Common.{rules, ◌≡◌, ℕ, Option, Some, None}
use Rattle.std.specs.Option.{option_map}
use Rattle.run_steps.specs.script.Words.{node_called}
use Rattle.run_steps.proofs.script.Callings.{nodes-read}
use Rattle.run_steps.proofs.script.nodes.node_called.Goals as goal

pub returns-in_err-node-clause-calls : goal.returns-in_err-node-clause-calls
returns-in_err-node-clause-calls c =
    let names = option_map (λ n. n.now) c.args.names in
    let is : c.from_residual.result ≡ node_called c.args.rows.now names c.args.word.now = search rules in
    nodes-read c.args.rows.now c.nodes-nodes.ensures.whole.nodes names c.args.word.now _ is

pub returns-then-node-nodes-clause-calls : goal.returns-then-node-nodes-clause-calls
returns-then-node-nodes-clause-calls c =
    let names = option_map (λ n. n.now) c.args.names in
    let is : ◌≡◌ {A = Option ℕ} None (node_called c.args.rows.now names c.args.word.now) = search rules in
    nodes-read c.args.rows.now c.nodes-nodes.ensures.whole.nodes names c.args.word.now _ is

pub returns-clause-calls : goal.returns-clause-calls
returns-clause-calls c =
    let names = option_map (λ n. n.now) c.args.names in
    let is : Some c.in_ok-node.node ≡ node_called c.args.rows.now names c.args.word.now = search rules in
    nodes-read c.args.rows.now c.nodes-nodes.ensures.whole.nodes names c.args.word.now _ is

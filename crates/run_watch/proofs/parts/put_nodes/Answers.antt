use Rattle.std.proofs.Common.{◌<◌, ap, arith, append_assoc, length}
use Rattle.std.proofs.lemmas.Grind.{common_steps}
use Rattle.rule_check.specs.Value.{names_of}
use Rattle.run_watch.specs.Watching.{node_text}
use Rattle.run_watch.proofs.Ranges.{flat_left}
use Rattle.run_watch.proofs.parts.put_nodes.Goals as goal

pub loop-node-preserved : goal.loop-node-preserved
loop-node-preserved c =
    let config = c.args.config.now in
    let n = c.loop-node.node in
    let inside : n < length config.states = omega (arith, c.loop-node-test.true, c.loop-node.auto.node-end, ap length c.states-state-items.ensures.states) in
    let more = flat_left (node_text c.args.show.now (names_of c.args.program.now) c.args.before.now config) n (length config.states) inside in
    grind (arith, common_steps, more, append_assoc)

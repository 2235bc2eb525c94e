use Rattle.std.proofs.Common.{◌<◌, ◌++◌, length, arith}
use Rattle.std.specs.List.{range_with_len, flat_map}
use Rattle.std.proofs.lemmas.Result.{err_from_is_err_and}
use Rattle.run_steps.specs.script.Runs.{few_steps}
use Rattle.run_steps.specs.script.Texts.{turn_of}
use Rattle.run_steps.proofs.script.Answering.{answer-err}
use Rattle.run_steps.proofs.script.Pushes.{sweep-many, sweep-more}
use Rattle.run_steps.proofs.script.put.put_sweep.Goals as goal

pub returns-in_err-put_turn : goal.returns-in_err-put_turn
returns-in_err-put_turn c =
    let first = c.args.steps.now.items in
    let turn = turn_of c.args.network.now in
    let n = length c.args.network.now in
    let fault = c.in_err-put_turn.field-0.0 in
    let p = err_from_is_err_and c.from_residual.result c.from_residual.ensures.1 in
    let low : c.loop-node.node < n = omega (arith, c.nodes-node-end.ensures.count) in
    record {
      put = answer-err _ (few_steps c.args.line (first ++ flat_map turn (range_with_len 0 n))) c.from_residual.result p.0 fault p.1 p.2
          (λ never. sweep-many c.args.line first c.loop-node.steps.items turn c.loop-node.node n fault low c.loop-node.invariant.put (c.in_err-put_turn.ensures.put never));
    }

pub loop-node-preserved : goal.loop-node-preserved
loop-node-preserved c =
    let more = sweep-more c.args.line c.args.steps.now.items c.loop-node.steps.items c.put_turn.new.steps.items (turn_of c.args.network.now) c.loop-node.node c.loop-node.invariant.put c.in_ok-put_turn.ensures.put in
    record { few = more.1; put = more.0 }

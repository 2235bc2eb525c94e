use Rattle.std.proofs.Common.{◌<◌, ℕ, ap, arith, length}
use Rattle.std.proofs.lemmas.Grind.{common_steps}
use Rattle.rounds_plan.specs.Lockstep.{state_in}
use Rattle.run_watch.specs.Watching.{is_shown}
use Rattle.run_watch.proofs.Ranges.{filter_left}
use Rattle.run_watch.proofs.parts.count_shown.Goals as goal

pub loop-node-preserved : goal.loop-node-preserved
loop-node-preserved c =
    let states = c.args.config.now.states in
    let n = c.loop-node.node in
    let inside : n < length states = omega (arith, c.loop-node-test.true, c.loop-node.auto.node-end, ap length c.states-state-items.ensures.states) in
    let more = filter_left (λ (u : ℕ). is_shown c.args.show.now c.args.before.now u (state_in states u)) n (length states) inside in
    grind (arith, common_steps, more)

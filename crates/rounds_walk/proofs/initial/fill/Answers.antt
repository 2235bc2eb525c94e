use Rattle.std.proofs.Common.{Some, []}
use Rattle.rounds_plan.specs.Opening.{with_value}
use Rattle.rounds_walk.proofs.Filled.{filled_more}
use Rattle.rounds_walk.proofs.initial.fill.Goals as goal

pub loop-state-preserved : goal.loop-state-preserved
loop-state-preserved c =
    filled_more (with_value c.args.field (Some c.args.value)) c.args.states.now c.loop-state.states c.loop-state.state-index (record { words = [] }) c.loop-state-test.true c.loop-state.invariant

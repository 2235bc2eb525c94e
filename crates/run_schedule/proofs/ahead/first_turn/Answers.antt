use Rattle.std.proofs.Common.{refl}
use Rattle.run_schedule.proofs.Leading.{last-turn, turns-wait}
use Rattle.run_schedule.proofs.ahead.first_turn.Goals as goal

pub waited_for-requires : goal.waited_for-requires
waited_for-requires c = record { node = (last-turn c.args.walk.now.world c.args.node c.waits.turns.items c.waits.first c.waits.invariant).there }

pub waits-preserved : goal.waits-preserved
waits-preserved c =
    let v = c.in-Some.neighbour in
    rw c.in_ok-push.ensures.items
    (turns-wait c.args.walk.now.world c.args.node c.waits.turns.items c.waits.first (record { node = v; slot = 0 }) v c.network-network.ensures.sound c.waits.invariant c.in-Some.ensures.behind refl refl)

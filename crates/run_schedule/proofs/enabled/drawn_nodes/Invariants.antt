use Rattle.run_schedule.proofs.Drawn.{DrawnSoFar}
use Rattle.run_schedule.proofs.enabled.drawn_nodes.Given as goal

abbrev pub invariant-loop-node : goal.invariant-loop-node
invariant-loop-node l = DrawnSoFar l.walk.world l.share l.node l.drawn.items

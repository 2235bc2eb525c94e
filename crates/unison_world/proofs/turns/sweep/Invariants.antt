use Rattle.std.proofs.Common.{◌≡◌, ◌+◌, ◌-◌, ◌*◌, ◌≤◌, length}
use Rattle.std.specs.List.{range_with_len}
use Rattle.link_net.specs.Neighbours.{numbers_below}
use Rattle.unison_world.specs.Counting.{InStep}
use Rattle.unison_world.specs.Progress.{steps_done}
use Rattle.unison_world.specs.Pictures.{counts_of, IsDrawn}
use Rattle.unison_world.specs.Turns.{after_turns, moves_in_turns}
use Rattle.unison_world.proofs.turns.sweep.Given as goal

abbrev pub invariant-loop-node : goal.invariant-loop-node
invariant-loop-node l =
    record {
      counts : after_turns l.plan.network l.stop (counts_of l.nodes.items) (range_with_len l.node (length l.plan.network - l.node))
          ≡ after_turns l.plan.network l.stop (counts_of l.initial.nodes.items) (numbers_below (length l.plan.network));
      moves : l.moves + moves_in_turns l.plan.network l.stop (counts_of l.nodes.items) (range_with_len l.node (length l.plan.network - l.node))
          ≡ moves_in_turns l.plan.network l.stop (counts_of l.initial.nodes.items) (numbers_below (length l.plan.network));
      steps : steps_done l.plan.network (counts_of l.nodes.items) ≡ steps_done l.plan.network (counts_of l.initial.nodes.items) + l.steps;
      some : l.moves ≤ l.node;
      few : l.steps ≤ l.node * 4097;
      drawn : IsDrawn l.plan l.nodes.items;
      in_step : InStep l.plan.network l.stop (counts_of l.nodes.items);
    }

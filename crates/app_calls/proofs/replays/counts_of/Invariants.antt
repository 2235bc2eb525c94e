use Rattle.std.proofs.Common.{◌≡◌, ◌-◌, ◌++◌, length, map}
use Rattle.std.specs.List.{range_with_len}
use Rattle.unison_world.specs.Counting.{moves_of}
use Rattle.app_calls.specs.Words.{counts_in}
use Rattle.app_calls.proofs.replays.counts_of.Given as goal

abbrev pub invariant-loop-node : goal.invariant-loop-node
invariant-loop-node l =
    l.counts.items ++ map (moves_of l.world.counts) (range_with_len l.node (length l.world.plan.network - l.node)) ≡ counts_in l.world.plan l.world.counts

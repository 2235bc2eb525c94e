use Rattle.std.proofs.Common.{◌≡◌, ◌++◌, take}
use Rattle.std.specs.List.{flat_map}
use Rattle.run_schedule.specs.Daemons.{reads_of}
use Rattle.run_schedule.proofs.together.put_all_reads.Given as goal

abbrev pub invariant-loop-node : goal.invariant-loop-node
invariant-loop-node l = l.steps.items ≡ l.initial.steps.items ++ flat_map (reads_of l.network) (take l.node-index l.nodes)

use Rattle.std.proofs.Common.{◌≡◌, ◌-◌, ◌++◌, length, map, string_bytes}
use Rattle.std.specs.List.{flat_map, range_with_len}
use Rattle.link_net.specs.Neighbours.{numbers_below}
use Rattle.run_naive.specs.Telling.{node_line}
use Rattle.run_naive.specs.Keeping.{shown}
use Rattle.run_naive.proofs.telling.put_nodes.Given as goal

abbrev pub invariant-loop-node : goal.invariant-loop-node
invariant-loop-node l =
    string_bytes l.out ++ flat_map (node_line l.plan (map shown l.nodes)) (range_with_len l.node (length l.plan.network - l.node))
    ≡ string_bytes l.initial.out ++ flat_map (node_line l.plan (map shown l.nodes)) (numbers_below (length l.plan.network))

use Rattle.std.proofs.Common.{◌≡◌, ◌++◌, drop, map, string_bytes}
use Rattle.run_picture.specs.Drawn.{node_lines}
use Rattle.run_picture.proofs.graph.put_nodes.Given as goal

abbrev pub invariant-loop-node : goal.invariant-loop-node
invariant-loop-node l =
    string_bytes l.out ++ node_lines l.key (map string_bytes l.labels) l.node (drop l.node l.values) ≡ string_bytes l.initial.out ++ node_lines l.key (map string_bytes l.labels) 0 l.values

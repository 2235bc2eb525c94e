use Rattle.std.proofs.Common.{◌≡◌, ◌++◌, ◌-◌, length, string_bytes}
use Rattle.std.specs.List.{flat_map, range_with_len}
use Rattle.rule_check.specs.Value.{names_of}
use Rattle.link_net.specs.Neighbours.{numbers_below}
use Rattle.run_watch.specs.Watching.{node_text}
use Rattle.run_watch.proofs.parts.put_nodes.Given as goal

abbrev pub invariant-loop-node : goal.invariant-loop-node
invariant-loop-node l =
    let count = length l.config.states in
    let text = node_text l.show (names_of l.program) l.before l.config in
    string_bytes l.out ++ flat_map text (range_with_len l.node (count - l.node)) ≡ string_bytes l.initial.out ++ flat_map text (numbers_below count)

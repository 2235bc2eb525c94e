use Rattle.std.proofs.Common.{◌≡◌, ◌++◌, ◌-◌, length, string_bytes}
use Rattle.std.specs.List.{flat_map, range_with_len}
use Rattle.run_picture.specs.Drawn.{link_lines, links_at}
use Rattle.run_picture.proofs.links.put_network.Given as goal

abbrev pub invariant-loop-node : goal.invariant-loop-node
invariant-loop-node l =
    string_bytes l.out ++ flat_map (links_at l.network) (range_with_len l.node (length l.network - l.node)) ≡ string_bytes l.initial.out ++ link_lines l.network

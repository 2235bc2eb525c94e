use Rattle.std.proofs.Common.{◌≡◌, ◌++◌, ◌-◌, string_bytes}
use Rattle.std.specs.List.{flat_map, range_with_len}
use Rattle.link_net.specs.Neighbours.{degree}
use Rattle.run_picture.specs.Drawn.{links_at, slot_line}
use Rattle.run_picture.proofs.links.put_links.Given as goal

abbrev pub invariant-loop-slot : goal.invariant-loop-slot
invariant-loop-slot l =
    string_bytes l.out ++ flat_map (slot_line l.network l.node) (range_with_len l.slot (degree l.network l.node - l.slot)) ≡ string_bytes l.initial.out ++ links_at l.network l.node

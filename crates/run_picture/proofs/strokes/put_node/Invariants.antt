use Rattle.std.proofs.Common.{◌≡◌, ◌++◌, ◌-◌, string_bytes}
use Rattle.std.specs.List.{flat_map, range_with_len}
use Rattle.link_net.specs.Neighbours.{degree}
use Rattle.run_picture.specs.Nets.{slot_stroke, strokes_at}
use Rattle.run_picture.proofs.strokes.put_node.Given as goal

abbrev pub invariant-loop-slot : goal.invariant-loop-slot
invariant-loop-slot l =
    string_bytes l.out ++ flat_map (slot_stroke l.network l.node) (range_with_len l.slot (degree l.network l.node - l.slot)) ≡ string_bytes l.initial.out ++ strokes_at l.network l.node

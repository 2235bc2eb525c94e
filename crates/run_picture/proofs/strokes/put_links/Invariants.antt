use Rattle.std.proofs.Common.{◌≡◌, ◌++◌, ◌-◌, length, string_bytes}
use Rattle.std.specs.List.{flat_map, range_with_len}
use Rattle.run_picture.specs.Nets.{strokes_at, strokes_text}
use Rattle.run_picture.proofs.strokes.put_links.Given as goal

abbrev pub invariant-loop-node : goal.invariant-loop-node
invariant-loop-node l =
    string_bytes l.out ++ flat_map (strokes_at l.network) (range_with_len l.node (length l.network - l.node)) ≡ string_bytes l.initial.out ++ strokes_text l.network

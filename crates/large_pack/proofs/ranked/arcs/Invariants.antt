use Rattle.std.proofs.Common.{◌≡◌, ◌++◌, drop}
use Rattle.std.specs.List.{flat_map}
use Rattle.large_pack.specs.Ranks.{ranked_arcs}
use Rattle.large_pack.proofs.ranked.arcs.Given as goal

abbrev pub invariant-loop-edge : goal.invariant-loop-edge
invariant-loop-edge l = l.arcs.items ++ flat_map (ranked_arcs l.is_directed) (drop l.edge-index l.edge-items) ≡ flat_map (ranked_arcs l.is_directed) l.fn.edges.items

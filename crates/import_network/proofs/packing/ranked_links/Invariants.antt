use Rattle.std.proofs.Common.{◌≡◌, ◌++◌, drop, map}
use Rattle.large_pack.specs.Ranks.{ranked}
use Rattle.import_network.specs.LinkPacking.{edges_from}
use Rattle.import_network.proofs.packing.ranked_links.Given as goal

abbrev pub invariant-loop-place : goal.invariant-loop-place
invariant-loop-place l = l.edges.items ++ map (ranked l.options) (edges_from l.options.reverse l.place (drop l.place l.links)) ≡ map (ranked l.options) (edges_from l.options.reverse 0 l.links)

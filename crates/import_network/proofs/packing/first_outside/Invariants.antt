use Rattle.std.proofs.Common.{◌≡◌, drop}
use Rattle.large_pack.specs.Sound.{first_fault, outside_fault}
use Rattle.import_network.specs.LinkPacking.{edges_from}
use Rattle.import_network.proofs.packing.first_outside.Given as goal

abbrev pub invariant-loop-place : goal.invariant-loop-place
invariant-loop-place l = first_fault (outside_fault l.options.nodes) (edges_from l.options.reverse l.place (drop l.place l.links)) ≡ first_fault (outside_fault l.options.nodes) (edges_from l.options.reverse 0 l.links)

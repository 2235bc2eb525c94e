use Rattle.std.proofs.Common.{◌≡◌}
use Rattle.std.specs.List.{range_with_len}
use Rattle.net_shapes.specs.Ahead.{ahead, links_ahead}
use Rattle.net_shapes.proofs.maker.all_links.Given as goal

abbrev pub invariant-loop-node : goal.invariant-loop-node
invariant-loop-node l = l.links.items ≡ links_ahead (ahead l.shape) (range_with_len 0 l.node)

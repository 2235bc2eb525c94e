use Rattle.std.proofs.Common.{◌≡◌, ◌+◌, ◌-◌, length, nat_lt, slice_index}
use Rattle.std.specs.List.{list_any, range_with_len}
use Rattle.link_net.specs.Limits.{most_neighbours}
use Rattle.link_net.specs.Neighbours.{numbers_below}
use Rattle.link_net.proofs.tables.has_crowded_node.Given as goal

abbrev pub invariant-loop-node : goal.invariant-loop-node
invariant-loop-node l =
    list_any (λ u. nat_lt most_neighbours (slice_index l.offsets (u + 1) - slice_index l.offsets u)) (numbers_below (length l.offsets - 1))
    ≡ list_any (λ u. nat_lt most_neighbours (slice_index l.offsets (u + 1) - slice_index l.offsets u)) (range_with_len l.node (length l.offsets - 1 - l.node))

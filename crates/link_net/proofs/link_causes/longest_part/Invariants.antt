use Rattle.std.proofs.Common.{◌≡◌, ◌+◌, ◌-◌, length, nat_lt, slice_index}
use Rattle.std.specs.List.{find, range_with_len}
use Rattle.link_net.specs.Limits.{most_neighbours}
use Rattle.link_net.specs.Neighbours.{numbers_below}
use Rattle.link_net.proofs.link_causes.longest_part.Given as goal

abbrev pub invariant-loop-node : goal.invariant-loop-node
invariant-loop-node l =
    find (λ u. nat_lt most_neighbours (slice_index l.offsets (u + 1) - slice_index l.offsets u)) (numbers_below (length l.offsets - 1))
    ≡ find (λ u. nat_lt most_neighbours (slice_index l.offsets (u + 1) - slice_index l.offsets u)) (range_with_len l.node (length l.offsets - 1 - l.node))

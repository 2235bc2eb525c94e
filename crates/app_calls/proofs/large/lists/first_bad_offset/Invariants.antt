use Rattle.std.proofs.Common.{◌≡◌, ◌-◌, length}
use Rattle.std.specs.List.{find, range_with_len}
use Rattle.link_net.specs.Neighbours.{numbers_below}
use Rattle.large_net.specs.File.{is_bad_offset}
use Rattle.app_calls.proofs.large.lists.first_bad_offset.Given as goal

-- the first of those that are left is the first of all
abbrev pub invariant-loop-node : goal.invariant-loop-node
invariant-loop-node l =
    find (is_bad_offset l.offsets l.ends) (range_with_len l.node (length l.offsets - l.node))
    ≡ find (is_bad_offset l.offsets l.ends) (numbers_below (length l.offsets))

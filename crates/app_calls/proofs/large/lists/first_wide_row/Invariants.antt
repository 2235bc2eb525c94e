use Rattle.std.proofs.Common.{◌≡◌, ◌-◌, length}
use Rattle.std.specs.List.{find, range_with_len}
use Rattle.link_net.specs.Neighbours.{numbers_below}
use Rattle.large_net.specs.File.{is_wide}
use Rattle.app_calls.proofs.large.lists.first_wide_row.Given as goal

-- the first of those that are left is the first of all
abbrev pub invariant-loop-node : goal.invariant-loop-node
invariant-loop-node l =
    find (is_wide l.offsets) (range_with_len l.node (length l.offsets - 1 - l.node))
    ≡ find (is_wide l.offsets) (numbers_below (length l.offsets - 1))

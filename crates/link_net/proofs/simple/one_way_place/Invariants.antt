use Rattle.std.proofs.Common.{◌≡◌, ◌-◌, length}
use Rattle.std.specs.List.{range_with_len}
use Rattle.link_net.specs.Simple.{first_place, one_way_place, one_way_slot}
use Rattle.link_net.proofs.simple.one_way_place.Given as goal

-- the first of the nodes that are left is the first of all
abbrev pub invariant-loop-node : goal.invariant-loop-node
invariant-loop-node l = first_place (one_way_slot l.rows) (range_with_len l.node (length l.rows - l.node)) ≡ one_way_place l.rows

use Rattle.std.proofs.Common.{◌≡◌, ◌-◌}
use Rattle.std.specs.List.{find, range_with_len}
use Rattle.link_net.specs.Neighbours.{degree}
use Rattle.link_net.specs.Simple.{is_unordered, unordered_slot}
use Rattle.link_net.proofs.simple.unordered_slot.Given as goal

-- the first of the slots that are left is the first of all
abbrev pub invariant-loop-slot : goal.invariant-loop-slot
invariant-loop-slot l = find (is_unordered l.rows l.node) (range_with_len l.slot (degree l.rows l.node - l.slot)) ≡ unordered_slot l.rows l.node

use Rattle.std.proofs.Common.{◌≡◌, ◌-◌}
use Rattle.std.specs.List.{find, range_with_len}
use Rattle.link_net.specs.Neighbours.{degree}
use Rattle.link_net.specs.Simple.{leads_one_way, one_way_slot}
use Rattle.link_net.proofs.simple.one_way_slot.Given as goal

-- the first of the slots that are left is the first of all
abbrev pub invariant-loop-slot : goal.invariant-loop-slot
invariant-loop-slot l = find (leads_one_way l.rows l.node) (range_with_len l.slot (degree l.rows l.node - l.slot)) ≡ one_way_slot l.rows l.node

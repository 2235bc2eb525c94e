use Rattle.std.proofs.Common.{◌≡◌, ◌++◌, drop, map}
use Rattle.serde_json.specs.View.{view}
use Rattle.link_net.specs.Neighbours.{row}
use Rattle.run_page.specs.Pages.{links_up}
use Rattle.run_page.proofs.links.put_links.Given as goal

abbrev pub invariant-loop-slot : goal.invariant-loop-slot
invariant-loop-slot l =
    map view l.items.items ++ links_up l.node (drop l.slot (row l.network l.node)) ≡ map view l.initial.items.items ++ links_up l.node (row l.network l.node)

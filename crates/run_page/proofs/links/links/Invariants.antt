use Rattle.std.proofs.Common.{◌≡◌, ◌++◌, ◌-◌, length, map}
use Rattle.std.specs.List.{flat_map, range_with_len}
use Rattle.serde_json.specs.View.{view}
use Rattle.link_net.specs.Neighbours.{row}
use Rattle.run_page.specs.Pages.{links_of, links_up}
use Rattle.run_page.proofs.links.links.Given as goal

abbrev pub invariant-loop-node : goal.invariant-loop-node
invariant-loop-node l =
    map view l.items.items ++ flat_map (λ u. links_up u (row l.network u)) (range_with_len l.node (length l.network - l.node)) ≡ links_of l.network

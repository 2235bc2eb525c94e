use Rattle.std.proofs.Common.{◌≡◌, ◌++◌, drop, option_map}
use Rattle.toml.specs.View.{items_view}
use Rattle.link_net.specs.Document.{links_in}
use Rattle.link_net.proofs.document.read_link_array.Given as goal

abbrev pub invariant-loop-value : goal.invariant-loop-value
invariant-loop-value l =
    links_in (items_view l.value-items) ≡ option_map (λ ls. l.items.items ++ ls) (links_in (items_view (drop l.value-index l.value-items)))

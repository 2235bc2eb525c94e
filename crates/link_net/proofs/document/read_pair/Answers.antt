use Rattle.std.proofs.Common.{◌≡◌, None, rules}
use Rattle.toml.specs.View.{items_view}
use Rattle.link_net.specs.Document.{pair_in}
use Rattle.link_net.proofs.Steps.{pair_in-other}
use Rattle.link_net.proofs.document.read_pair.Goals as goal

pub returns-then-len-ne2 : goal.returns-then-len-ne2
returns-then-len-ne2 c =
    let other : pair_in (items_view c.in_ok-array.array.now.items) ≡ None = pair_in-other c.in_ok-array.array.now.items (search rules) in
    rw (← c.in_ok-array.ensures, other)

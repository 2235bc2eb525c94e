use Rattle.std.proofs.Common.{◌≡◌, None, Some, pos, rules, arith}
use Rattle.toml.specs.View.{view, items_view}
use Rattle.link_net.specs.Document.{link_of, link_in}
use Rattle.link_net.proofs.Steps.{link_in-other, link_in-two}
use Rattle.link_net.proofs.document.read_link.Goals as goal

pub returns-then-len-ne3 : goal.returns-then-len-ne3
returns-then-len-ne3 c =
    let other : link_in (items_view c.in_ok-array.array.now.items) ≡ None = link_in-other c.in_ok-array.array.now.items (search rules) (search rules) in
    rw (← c.in_ok-array.ensures, other)

pub returns-then-len-eq2 : goal.returns-then-len-eq2
returns-then-len-eq2 c =
    let two = link_in-two c.in_ok-array.array.now.items c.index.result.now c.index-2.result.now (omega arith) c.index.ensures c.index-2.ensures in
    let is : link_of (view c.args.value.now) ≡ Some (c.in_ok-first.first, c.in_ok-second.second, pos 1) = rw (← c.in_ok-array.ensures, two, ← c.in_ok-first.ensures, ← c.in_ok-second.ensures) in
    grind (arith, is)

use Rattle.std.proofs.Common.{◌≡◌, ◌∙◌, ◌<◌, ◌+◌, ◌-◌, ◌++◌, ℕ, List, ap, append_assoc, arith, length, map, sym}
use Rattle.std.specs.List.{flat_map, range_with_len}
use Rattle.link_net.specs.Neighbours.{row}
use Rattle.serde_json.specs.Data.{Data}
use Rattle.serde_json.specs.View.{view}
use Rattle.run_page.specs.Pages.{links_up}
use Rattle.run_page.proofs.Rows.{flat_left}
use Rattle.run_page.proofs.links.links.Goals as goal

pub loop-node-preserved : goal.loop-node-preserved
loop-node-preserved c =
    let network = c.args.network.now in
    let n = c.loop-node.node in
    let up = λ (u : ℕ). links_up u (row network u) in
    let old = map view c.loop-node.items.items in
    let rest = flat_map up (range_with_len (n + 1) (length network - (n + 1))) in
    let inside : n < length network = omega (arith, c.loop-node-test.true, c.loop-node.auto.node-end, c.nodes-node-end.ensures.count) in
    ap (λ (items : List Data). items ++ rest) c.in_ok-put_links.ensures
    ∙ append_assoc old (up n) rest
    ∙ sym (ap (λ (items : List Data). old ++ items) (flat_left up n (length network) inside))
    ∙ c.loop-node.invariant

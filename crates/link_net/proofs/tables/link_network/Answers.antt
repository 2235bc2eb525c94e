use Rattle.std.proofs.Common.{◌≡◌, ℕ, ◌<◌, false, length, nat_lt, Ok, sym, ap, ◌∙◌, rules}
use Rattle.std.specs.List.{list_any}
use Rattle.link_net.specs.Arcs.{IsFirst}
use Rattle.link_net.specs.Limits.{most_links}
use Rattle.link_net.specs.Links.{is_self_link}
use Rattle.link_net.proofs.Laying.{AreTables, placed, rows_are, crowded_is, laid}
use Rattle.link_net.proofs.Checks.{at_crowded, at_fine}
use Rattle.link_net.proofs.tables.link_network.Goals as goal
use Rattle.link_net.proofs.tables.link_network.Goals.{After-as_slice-2}

made : (c : After-as_slice-2) → AreTables c.args.nodes c.args.links.now c.in_ok-arcs.arcs.items c.in_ok-offsets.offsets.items
made c =
    let firsts : (u : ℕ) → u < length c.in_ok-offsets.offsets.items → IsFirst c.in_ok-arcs.arcs.items u _ = rw c.as_slice.ensures.value at c.in_ok-offsets.ensures.firsts in
    record {
      within = c.requires.within;
      once = c.in_ok-arcs.ensures.once;
      moved = c.in_ok-arcs.ensures.arcs;
      sorted = c.in_ok-arcs.ensures.sorted;
      count = c.in_ok-offsets.ensures.count;
      firsts = firsts;
    }

pub has_crowded_node-requires-clause-rising : goal.has_crowded_node-requires-clause-rising
has_crowded_node-requires-clause-rising c = rw c.as_slice-2.ensures.value (placed c.args.nodes c.args.links.now c.in_ok-arcs.arcs.items c.in_ok-offsets.offsets.items (made c)).rising

straight : (c : After-as_slice-2) → list_any is_self_link c.args.links.now ≡ false
straight c = search rules

few : (c : After-as_slice-2) → nat_lt most_links (length c.args.links.now) ≡ false
few c = search rules

pub returns-then-has_crowded_node : goal.returns-then-has_crowded_node
returns-then-has_crowded_node c _ =
    let b = (goal.at.returns-then-has_crowded_node c).After-as_slice-2 in
    let crowded = rw c.as_slice-2.ensures.value at c.has_crowded_node.ensures in
    at_crowded c.args.nodes c.args.links.now (straight b) (made b).once (few b)
    (sym (crowded_is c.args.nodes c.args.links.now c.in_ok-arcs.arcs.items c.in_ok-offsets.offsets.items (made b)) ∙ sym crowded ∙ c.if-has_crowded_node.true)

pub new-requires : goal.new-requires
new-requires c =
    let b = (goal.at.new-requires c).After-as_slice-2 in
    let crowded = rw c.as_slice-2.ensures.value at c.has_crowded_node.ensures in
    let sparse = sym (crowded_is c.args.nodes c.args.links.now c.in_ok-arcs.arcs.items c.in_ok-offsets.offsets.items (made b)) ∙ sym crowded ∙ c.if-has_crowded_node.false in
    rw (c.in_ok-targets.ensures, c.in_ok-weights.ensures, c.as_slice-3.ensures.value, c.as_slice-4.ensures.value)
    (laid c.args.nodes c.args.links.now c.in_ok-arcs.arcs.items c.in_ok-offsets.offsets.items (made b) c.requires.some c.requires.small (straight b) sparse (search rules))

pub returns : goal.returns
returns c =
    let b = (goal.at.returns c).After-as_slice-2 in
    let crowded = rw c.as_slice-2.ensures.value at c.has_crowded_node.ensures in
    let sparse = sym (crowded_is c.args.nodes c.args.links.now c.in_ok-arcs.arcs.items c.in_ok-offsets.offsets.items (made b)) ∙ sym crowded ∙ c.if-has_crowded_node.false in
    let given = rw (c.in_ok-targets.ensures, c.in_ok-weights.ensures, c.as_slice-3.ensures.value, c.as_slice-4.ensures.value) at c.new.ensures in
    at_fine c.args.nodes c.args.links.now (straight b) (made b).once (few b) sparse
    ∙ ap Ok (sym (rows_are c.args.nodes c.args.links.now c.in_ok-arcs.arcs.items c.in_ok-offsets.offsets.items (made b)) ∙ sym given)

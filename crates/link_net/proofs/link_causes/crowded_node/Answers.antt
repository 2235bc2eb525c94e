use Rattle.std.proofs.Common.{ℕ, ◌<◌, length}
use Rattle.link_net.specs.Arcs.{IsFirst}
use Rattle.link_net.proofs.Laying.{AreTables, placed}
use Rattle.link_net.proofs.Crowds.{crowd_named, crowd_refused, no_crowd}
use Rattle.link_net.proofs.link_causes.crowded_node.Goals as goal
use Rattle.link_net.proofs.link_causes.crowded_node.Goals.{After-as_slice-2}

made : (c : After-as_slice-2) → AreTables c.args.nodes c.args.links.now c.in-Ok.arcs.items c.in_ok-offsets.offsets.items
made c =
    let firsts : (u : ℕ) → u < length c.in_ok-offsets.offsets.items → IsFirst c.in-Ok.arcs.items u _ = rw c.as_slice.ensures.value at c.in_ok-offsets.ensures.firsts in
    record {
      within = c.requires.within;
      once = c.in-Ok.ensures.once;
      moved = c.in-Ok.ensures.arcs;
      sorted = c.in-Ok.ensures.sorted;
      count = c.in_ok-offsets.ensures.count;
      firsts = firsts;
    }

pub longest_part-requires-clause-rising : goal.longest_part-requires-clause-rising
longest_part-requires-clause-rising c = rw c.as_slice-2.ensures.value (placed c.args.nodes c.args.links.now c.in-Ok.arcs.items c.in_ok-offsets.offsets.items (made c)).rising

pub returns-in_default-longest_part-clause-agrees : goal.returns-in_default-longest_part-clause-agrees
returns-in_default-longest_part-clause-agrees c =
    let b = (goal.at.returns-in_default-longest_part-clause-agrees c).After-as_slice-2 in
    let none = rw c.as_slice-2.ensures.value at c.in_default-longest_part.ensures.node in
    no_crowd c.args.nodes c.args.links.now c.in-Ok.arcs.items c.in_ok-offsets.offsets.items (made b) none

pub returns-clause-agrees : goal.returns-clause-agrees
returns-clause-agrees c =
    let b = (goal.at.returns-clause-agrees c).After-as_slice-2 in
    let found = rw c.as_slice-2.ensures.value at c.in-Some.ensures.node in
    crowd_refused c.args.nodes c.args.links.now c.in-Ok.arcs.items c.in_ok-offsets.offsets.items (made b) c.in-Some.part.0 found

pub returns-clause-named : goal.returns-clause-named
returns-clause-named c =
    let b = (goal.at.returns-clause-named c).After-as_slice-2 in
    let found = rw c.as_slice-2.ensures.value at c.in-Some.ensures.node in
    let long = rw c.as_slice-2.ensures.value at c.in-Some.ensures.long in
    crowd_named c.args.nodes c.args.links.now c.in-Ok.arcs.items c.in_ok-offsets.offsets.items (made b) c.in-Some.part.0 c.in-Some.part.1 found long

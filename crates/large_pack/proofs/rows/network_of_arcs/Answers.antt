use Rattle.std.proofs.Common.{◌<◌, ℕ, length, arith}
use Rattle.link_net.specs.Arcs.{IsFirst}
use Rattle.large_pack.proofs.Laying.{AreTables, by_node, within_moved, laid, has_arcs}
use Rattle.large_pack.proofs.rows.network_of_arcs.Goals as goal
use Rattle.large_pack.proofs.rows.network_of_arcs.Goals.{After-as_slice-2}

pub offsets-requires-clause-sorted : goal.offsets-requires-clause-sorted
offsets-requires-clause-sorted c = rw c.as_slice.ensures.value (by_node c.sort_unstable.new.self.items c.sort_unstable.ensures.sorted)

pub offsets-requires-clause-within : goal.offsets-requires-clause-within
offsets-requires-clause-within c = rw c.as_slice.ensures.value (within_moved c.args.nodes c.args.arcs.items c.sort_unstable.new.self.items c.requires.within c.sort_unstable.ensures.permutation)

made : (c : After-as_slice-2) → AreTables c.args.nodes c.args.arcs.items c.sort_unstable.new.self.items c.in_ok-offsets.offsets.items
made c =
    let firsts : (u : ℕ) → u < length c.in_ok-offsets.offsets.items → IsFirst c.sort_unstable.new.self.items u _ = rw c.as_slice.ensures.value at c.in_ok-offsets.ensures.firsts in
    record {
      within = c.requires.within;
      few = c.requires.few;
      moved = c.sort_unstable.ensures.permutation;
      sorted = c.sort_unstable.ensures.sorted;
      count = c.in_ok-offsets.ensures.count;
      firsts = firsts;
    }

pub new-network-requires : goal.new-network-requires
new-network-requires c =
    let b = (goal.at.new-network-requires c).After-as_slice-2 in
    record {
      laid_out =
          rw (c.in_ok-targets.ensures, c.in_ok-weights.ensures, c.as_slice-2.ensures.value, c.as_slice-3.ensures.value)
          (laid c.args.nodes c.args.arcs.items c.sort_unstable.new.self.items c.in_ok-offsets.offsets.items (made b) c.requires.some (omega (arith, c.ranges.nodes.fits)));
    }

pub returns : goal.returns
returns c =
    let b = (goal.at.returns c).After-as_slice-2 in
    record {
      rows =
          rw (c.new-network.ensures.rows, c.in_ok-targets.ensures, c.in_ok-weights.ensures, c.as_slice-2.ensures.value, c.as_slice-3.ensures.value)
          (has_arcs c.args.nodes c.args.arcs.items c.sort_unstable.new.self.items c.in_ok-offsets.offsets.items (made b));
    }

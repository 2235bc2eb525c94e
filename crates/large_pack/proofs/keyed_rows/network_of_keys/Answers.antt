use Rattle.std.proofs.Common.{arith}
use Rattle.large_pack.specs.Keys.{arcs_in}
use Rattle.large_pack.proofs.Laying.{laid, has_arcs}
use Rattle.large_pack.proofs.KeyRows.{from_below, targets_are, weights_are, tables_of}
use Rattle.large_pack.proofs.keyed_rows.network_of_keys.Goals as goal

pub offsets-requires-clause-within : goal.offsets-requires-clause-within
offsets-requires-clause-within c = from_below c.args.weight c.args.nodes c.args.keys.now c.requires.within

pub new-network-requires : goal.new-network-requires
new-network-requires c =
    let w = c.args.weight in
    let ks = c.args.keys.now in
    let arcs = arcs_in w ks in
    record {
      laid_out =
          rw (c.in_ok-targets.ensures, c.in_ok-weights.ensures, targets_are w ks, weights_are w ks)
          (laid c.args.nodes arcs arcs c.in_ok-offsets.offsets.items (tables_of w c.args.nodes ks c.in_ok-offsets.offsets.items c.requires.sorted c.requires.within c.requires.few c.in_ok-offsets.ensures.count c.in_ok-offsets.ensures.firsts)
          c.requires.some (omega (arith, c.ranges.nodes.fits)));
    }

pub returns : goal.returns
returns c =
    let w = c.args.weight in
    let ks = c.args.keys.now in
    let arcs = arcs_in w ks in
    record {
      rows =
          rw (c.new-network.ensures.rows, c.in_ok-targets.ensures, c.in_ok-weights.ensures, targets_are w ks, weights_are w ks)
          (has_arcs c.args.nodes arcs arcs c.in_ok-offsets.offsets.items (tables_of w c.args.nodes ks c.in_ok-offsets.offsets.items c.requires.sorted c.requires.within c.requires.few c.in_ok-offsets.ensures.count c.in_ok-offsets.ensures.firsts));
    }

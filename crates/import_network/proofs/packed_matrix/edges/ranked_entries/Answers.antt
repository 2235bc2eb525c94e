use Rattle.std.proofs.Common.{◌+◌}
use Rattle.import_formats.specs.matrix_market.Matrices.{lines_left}
use Rattle.large_pack.proofs.Rising.{told_rise, front_rise}
use Rattle.import_network.proofs.packed_matrix.edges.ranked_entries.Goals as goal

pub returns-clause-rising : goal.returns-clause-rising
returns-clause-rising c =
    let from = c.args.from in
    front_rise c.loop-edges.edges.items (lines_left c.loop-edges.entries) (lines_left from) c.loop-edges.invariant.lines (told_rise (from.lines.passed + 1) from.lines.bytes.now)

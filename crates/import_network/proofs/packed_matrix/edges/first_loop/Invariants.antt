use Rattle.std.proofs.Common.{◌≡◌, ◌+◌, ◌<◌, ◌≤◌, ◌^◌, length, None}
use Rattle.import_formats.specs.matrix_market.Matrices.{lines_left, links_left}
use Rattle.import_network.proofs.EntrySteps.{loops_after}
use Rattle.import_network.proofs.packed_matrix.edges.first_loop.Given as goal

abbrev pub invariant-loop-link : goal.invariant-loop-link
invariant-loop-link l = record {
  room : l.entries.lines.passed + length l.entries.lines.bytes.now < 2 ^ 64;
  most : l.entries.found ≤ l.entries.said;
  told : loops_after l.self_loops l.first (links_left l.entries) ≡ loops_after l.self_loops None (links_left l.fn.from);
}

abbrev pub decreases-loop-link : goal.decreases-loop-link
decreases-loop-link l = length (lines_left l.entries)

use Rattle.std.proofs.Common.{◌≡◌, ◌++◌, ◌+◌, ◌<◌, ◌≤◌, ◌^◌, length}
use Rattle.import_formats.specs.matrix_market.Matrices.{lines_left, links_left}
use Rattle.large_pack.specs.Ranks.{RankedWithin}
use Rattle.large_pack.proofs.Rising.{numbers, lines_of}
use Rattle.import_network.specs.MatrixSteps.{ranked_in}
use Rattle.import_network.proofs.EntrySteps.{with_front}
use Rattle.import_network.proofs.packed_matrix.edges.ranked_entries.Given as goal

abbrev pub invariant-loop-edges : goal.invariant-loop-edges
invariant-loop-edges l = record {
  room : l.entries.lines.passed + length l.entries.lines.bytes.now < 2 ^ 64;
  most : l.entries.found ≤ l.entries.said;
  form : l.entries.form ≡ l.fn.from.form;
  read : with_front l.options l.edges.items (links_left l.entries) ≡ ranked_in l.options (links_left l.fn.from);
  lines : lines_of l.edges.items ++ numbers (lines_left l.entries) ≡ numbers (lines_left l.fn.from);
  within : RankedWithin l.fn.from.form.nodes l.edges.items;
}

abbrev pub decreases-loop-edges : goal.decreases-loop-edges
decreases-loop-edges l = length (lines_left l.entries)

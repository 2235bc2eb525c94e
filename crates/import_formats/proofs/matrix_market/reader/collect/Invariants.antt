use Rattle.std.proofs.Common.{◌≡◌, ◌+◌, ◌<◌, ◌≤◌, ◌^◌, length}
use Rattle.import_formats.specs.matrix_market.Matrices.{lines_left, links_left}
use Rattle.import_formats.proofs.matrix_market.EntrySteps.{with_front}
use Rattle.import_formats.proofs.matrix_market.reader.collect.Given as goal

abbrev pub invariant-loop-links : goal.invariant-loop-links
invariant-loop-links l = record {
  room : l.entries.lines.passed + length l.entries.lines.bytes.now < 2 ^ 64;
  most : l.entries.found ≤ l.entries.said;
  read : with_front l.links.items (links_left l.entries) ≡ links_left l.fn.from;
}

abbrev pub decreases-loop-links : goal.decreases-loop-links
decreases-loop-links l = length (lines_left l.entries)

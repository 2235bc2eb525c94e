use Rattle.std.proofs.Common.{◌≡◌, ◌+◌, ◌<◌, ◌≤◌, ◌^◌, length}
use Rattle.import_formats.specs.matrix_market.Matrices.{lines_left, links_left}
use Rattle.import_formats.proofs.matrix_market.EntrySteps.{checked}
use Rattle.import_formats.proofs.matrix_market.reader.check_entries.Given as goal

abbrev pub invariant-loop : goal.invariant-loop
invariant-loop l = record {
  room : l.entries.lines.passed + length l.entries.lines.bytes.now < 2 ^ 64;
  most : l.entries.found ≤ l.entries.said;
  read : checked (links_left l.entries) ≡ checked (links_left l.fn.from);
}

abbrev pub decreases-loop : goal.decreases-loop
decreases-loop l = length (lines_left l.entries)

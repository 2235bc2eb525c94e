use Rattle.std.proofs.Common.{◌≡◌, ◌+◌, ◌++◌, [], ◌<◌, ◌^◌, length}
use Rattle.import_lines.specs.Texts.{told_from}
use Rattle.import_formats.specs.edges.Edges.{edges_in}
use Rattle.large_pack.proofs.Rising.{numbers, lines_of}
use Rattle.import_network.specs.PackNaming.{reading_of}
use Rattle.import_network.proofs.Numbering.{numbered_after}
use Rattle.import_network.proofs.packed_names.ends.named_edges.Given as goal

abbrev pub invariant-loop-number : goal.invariant-loop-number
invariant-loop-number l = record {
  room : l.lines.passed + length l.lines.bytes.now < 2 ^ 64;
  read : numbered_after l.options l.names l.edges.items (edges_in (reading_of l.options) (told_from (l.lines.passed + 1) l.lines.bytes.now)) ≡ numbered_after l.options [] [] (edges_in (reading_of l.options) (told_from (l.fn.from.passed + 1) l.fn.from.bytes.now));
  lines : lines_of l.edges.items ++ numbers (told_from (l.lines.passed + 1) l.lines.bytes.now) ≡ numbers (told_from (l.fn.from.passed + 1) l.fn.from.bytes.now);
}

abbrev pub decreases-loop-number : goal.decreases-loop-number
decreases-loop-number l = length (told_from (l.lines.passed + 1) l.lines.bytes.now)

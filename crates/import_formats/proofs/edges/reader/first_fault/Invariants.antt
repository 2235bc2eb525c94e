use Rattle.std.proofs.Common.{◌≡◌, ◌+◌, ◌<◌, ◌^◌, length}
use Rattle.std.specs.Result.{result_err}
use Rattle.import_lines.specs.Texts.{told_from}
use Rattle.import_formats.specs.edges.Edges.{edges_in}
use Rattle.import_formats.proofs.edges.reader.first_fault.Given as goal

abbrev pub invariant-loop-number : goal.invariant-loop-number
invariant-loop-number l = record {
  room : l.lines.passed + length l.lines.bytes.now < 2 ^ 64;
  read : result_err (edges_in l.reading (told_from (l.lines.passed + 1) l.lines.bytes.now)) ≡ result_err (edges_in l.fn.reading (told_from (l.fn.from.passed + 1) l.fn.from.bytes.now));
}

abbrev pub decreases-loop-number : goal.decreases-loop-number
decreases-loop-number l = length (told_from (l.lines.passed + 1) l.lines.bytes.now)

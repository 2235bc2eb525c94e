use Rattle.std.proofs.Common.{◌≡◌, ◌+◌, ◌<◌, ◌^◌, ◌++◌, map, length}
use Rattle.import_lines.specs.Texts.{told_from}
use Rattle.import_formats.specs.edges.Tables.{rows_of}
use Rattle.import_formats.specs.edges.View.{row_of}
use Rattle.import_formats.proofs.edges.RowSteps.{row_in}
use Rattle.import_formats.proofs.edges.row_reader.read_rows.Given as goal

abbrev pub invariant-loop-number : goal.invariant-loop-number
invariant-loop-number l = record {
  room : l.lines.passed + length l.lines.bytes.now < 2 ^ 64;
  read : map row_of l.rows.items ++ map (row_in l.separator) (told_from (l.lines.passed + 1) l.lines.bytes.now) ≡ rows_of l.fn.reading.separator l.fn.reading.header l.fn.text;
  same : l.separator ≡ l.fn.reading.separator;
}

abbrev pub decreases-loop-number : goal.decreases-loop-number
decreases-loop-number l = length (told_from (l.lines.passed + 1) l.lines.bytes.now)

use Rattle.std.proofs.Common.{◌≡◌, ◌+◌, ◌≤◌, drop}
use Rattle.net_patterns.specs.Cells.{pattern_of}
use Rattle.net_patterns.specs.Steps.{comes}
use Rattle.net_patterns.specs.Texts.{is_comment, plain_pieces}
use Rattle.net_patterns.proofs.plain.read_plain.Given as goal

abbrev pub invariant-loop-place : goal.invariant-loop-place
invariant-loop-place l = record {
  column : l.reader.board.column ≤ 65536;
  row : l.reader.board.row ≤ 65536;
  line : l.reader.line ≤ 1 + l.place;
  comes : comes l.reader.board.cells.items l.reader.board.column l.reader.board.row (plain_pieces l.reader.line l.reader.comment (drop l.place l.bytes)) ≡ pattern_of (plain_pieces 1 (is_comment l.bytes) l.bytes);
}

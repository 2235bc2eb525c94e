use Rattle.std.proofs.Common.{◌≡◌, ◌+◌, ◌≤◌, drop, None, MatchOption}
use Rattle.net_patterns.specs.Cells.{pattern_of}
use Rattle.net_patterns.specs.RunSteps.{pieces_from}
use Rattle.net_patterns.specs.Steps.{reads}
use Rattle.net_patterns.proofs.runs.read_runs.Given as goal

abbrev pub invariant-loop-byte : goal.invariant-loop-byte
invariant-loop-byte l = record {
  column : l.reader.board.column ≤ 65536;
  row : l.reader.board.row ≤ 65536;
  line : l.reader.line ≤ l.fn.line + l.byte-index;
  number : MatchOption l.reader.number (Unit {0}) (λ n. n ≤ 999999999);
  reads : reads l.reader.board.cells.items l.reader.board.column l.reader.board.row l.reader.line l.reader.number l.reader.higher (drop l.byte-index l.bytes) ≡ pattern_of (pieces_from l.fn.line None 0 l.bytes);
}

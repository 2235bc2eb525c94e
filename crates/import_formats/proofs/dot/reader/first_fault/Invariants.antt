use Rattle.std.proofs.Common.{◌≡◌, ◌+◌, ◌<◌, ◌^◌, length}
use Rattle.std.specs.Result.{result_err}
use Rattle.import_formats.specs.dot.Graphs.{events_from}
use Rattle.import_formats.specs.dot.Reading.{read_graph}
use Rattle.import_formats.specs.dot.View.{tokens_left}
use Rattle.import_formats.proofs.dot.reader.first_fault.Given as goal

abbrev pub invariant-loop-token : goal.invariant-loop-token
invariant-loop-token l = record {
  room : l.tokens.line + length l.tokens.bytes.now < 2 ^ 64;
  read : result_err (events_from l.reading.undirected l.reading.factor l.state (tokens_left l.tokens)) ≡ result_err (read_graph l.reading.undirected l.reading.factor l.text);
}

abbrev pub decreases-loop-token : goal.decreases-loop-token
decreases-loop-token l = length (tokens_left l.tokens)

use Rattle.std.proofs.Common.{◌≡◌, ◌+◌, ◌<◌, ◌≤◌, ◌^◌, length, vec_len}
use Rattle.import_formats.specs.dot.Graphs.{events_from}
use Rattle.import_formats.specs.dot.Reading.{read_graph}
use Rattle.import_formats.specs.dot.View.{tokens_left}
use Rattle.import_formats.proofs.dot.EventSteps.{with_built}
use Rattle.import_formats.proofs.dot.reader.collect.Given as goal

abbrev pub invariant-loop-token : goal.invariant-loop-token
invariant-loop-token l = record {
  room : l.tokens.line + length l.tokens.bytes.now < 2 ^ 64;
  bound : l.builder.passed ≤ vec_len l.builder.nodes;
  read : with_built l.builder (events_from l.reading.undirected l.reading.factor l.state (tokens_left l.tokens)) ≡ read_graph l.reading.undirected l.reading.factor l.text;
}

abbrev pub decreases-loop-token : goal.decreases-loop-token
decreases-loop-token l = length (tokens_left l.tokens)
